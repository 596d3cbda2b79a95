-- The fields of a seat's word, and what they say.
use Rattle.std.specs.Prelude.{◌≡◌, ◌≢◌, ℕ, zero, suc, ◌+◌, ◌*◌, ◌/◌, ◌%◌, ◌<◌, true, false, Bool}

-- the counts of shares, and what is so of the page's pass
pub record Fields : Type 0 where
  pub readers : ℕ
  pub pins : ℕ
  pub writers : ℕ
  pub queued : ℕ
  pub out : ℕ
  pub stays : ℕ
  pub closed : ℕ
  pub joins : ℕ

-- the word of so many shares, with these flags
abbrev pub packed : ℕ → ℕ → ℕ → ℕ → ℕ → ℕ → ℕ → ℕ → ℕ
packed r p w q o s c j =
    r + 1048576 * p + 1099511627776 * w + 2199023255552 * q + 4398046511104 * o + 8796093022208 * s + 17592186044416 * c
    + 35184372088832 * j

abbrev pub word_of : Fields → ℕ
word_of f = packed f.readers f.pins f.writers f.queued f.out f.stays f.closed f.joins

-- what a word says of its parts
abbrev pub fields : ℕ → Fields
fields n = record {
  readers = n % 1048576;
  pins = n / 1048576 % 1048576;
  writers = n / 1099511627776 % 2;
  queued = n / 2199023255552 % 2;
  out = n / 4398046511104 % 2;
  stays = n / 8796093022208 % 2;
  closed = n / 17592186044416 % 2;
  joins = n / 35184372088832;
}

abbrev pub IsUsed : Fields → Type 0
IsUsed f = 0 < f.readers + f.pins + f.writers

abbrev pub IsLatched : Fields → Type 0
IsLatched f = 0 < f.readers + f.writers

-- another guard fits, and as many again
abbrev pub HasRoom : Fields → Type 0
HasRoom f = (f.readers < 524288) × (f.pins < 524288)

-- who comes gets a shared latch: the pass is out, and nobody has the exclusive latch or is to get one
abbrev pub IsReadable : Fields → Type 0
IsReadable f = (f.out ≡ 1) × (f.writers ≡ 0) × (f.closed ≡ 0) × HasRoom f

-- who comes gets the exclusive latch
abbrev pub IsWritable : Fields → Type 0
IsWritable f = (f.out ≡ 1) × (f.readers ≡ 0) × (f.writers ≡ 0) × (f.closed ≡ 0)

-- who comes gets a pin
abbrev pub IsPinnable : Fields → Type 0
IsPinnable f = (f.out ≡ 1) × HasRoom f

-- the pass is out, and nobody uses the page
abbrev pub IsUnused : Fields → Type 0
IsUnused f = (f.out ≡ 1) × (f.readers ≡ 0) × (f.pins ≡ 0) × (f.writers ≡ 0)

-- a latch is free, which is 1 for a shared one: nobody has one that is in its way or is to get it
abbrev pub IsFree : ℕ → Fields → Type 0
IsFree latch f = (f.writers ≡ 0) × (f.closed ≡ 0) × (latch ≢ 1 → f.readers ≡ 0)

abbrev pub one_unless : Bool → ℕ
one_unless true = 0
one_unless false = 1

abbrev pub one_if : Bool → ℕ
one_if true = 1
one_if false = 0

-- whether there are some
abbrev pub some_of : ℕ → ℕ
some_of zero = 0
some_of (suc n) = 1
