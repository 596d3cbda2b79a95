-- One page more.
use Rattle.std.proofs.Common.{◌≡◌, refl, sym, ap, ◌∙◌, subst, ℕ, suc, ◌+◌, ◌<◌, List, [], ◌∷◌, ◌++◌, length, All, Option, append_assoc, append-nil, length-append, arith, rules}
use Rattle.std.proofs.KnownBytes.{Appends-nil, Appends-trans, Consumes-nil, Consumes-trans}
use Rattle.std.proofs.lemmas.List.Elements.{All-append}
use Rattle.std.specs.Io.KnownBytes.{Consumes, Appends}
use Rattle.bp_ports.specs.declared.migration.MigrateFault.{MigrateFault}
use Rattle.bp_ports.specs.declared.migration.MigrateFault.TheVariants.{Write}
use Rattle.bp_ports.specs.WholeFiles.{slots_from, unnumbered, numbered, raw_file, headed_file, MigratesPage, Copies}
use Rattle.bp_ports.specs.MigrateFaults.{OnWriteFault, ReadsSome}

-- the slot of the page after these is the last one
slots-more : (slot : ℕ → List ℕ → List ℕ) (page : ℕ) (images : List (List ℕ)) (image : List ℕ)
    → slots_from slot page (images ++ image ∷ []) ≡ slots_from slot page images ++ slot (page + length images) image
slots-more slot page [] image =
    let none : page ≡ page + 0 = omega arith in
    append-nil (slot page image) ∙ ap (λ n. slot n image) none
slots-more slot page (first ∷ images) image =
    let next : suc page + length images ≡ page + suc (length images) = omega arith in
    ap (λ rest. slot page first ++ rest) (slots-more slot (suc page) images image ∙ ap (λ n. slots_from slot (suc page) images ++ slot n image) next)
    ∙ sym (append_assoc (slot page first) (slots_from slot (suc page) images) (slot (page + suc (length images)) image))

-- one image more, of the same size
sized-more : (size : ℕ) (images : List (List ℕ)) (image : List ℕ) → All (λ i. length i ≡ size) images → length image ≡ size → All (λ i. length i ≡ size) (images ++ image ∷ [])
sized-more size images image sized fits = All-append (λ (i : List ℕ). length i ≡ size) images (image ∷ []) sized one
  where
    one : All (λ (i : List ℕ). length i ≡ size) (image ∷ [])
    one = search rules

read-more : (images : List (List ℕ)) (image : List ℕ) (unread mid left : Option (List ℕ)) → Consumes unread mid (raw_file images) → Consumes mid left image → Consumes unread left (raw_file (images ++ image ∷ []))
read-more images image unread mid left so_far next =
    subst (Consumes unread left) (sym (slots-more unnumbered 0 images image)) (Consumes-trans unread mid left (raw_file images) image so_far next)

pub copies-none : (size : ℕ) (unread old : Option (List ℕ)) → Copies 0 size unread unread old old
copies-none size unread old = record { images = []; count = refl; sized = search rules; read = Consumes-nil unread; written = Appends-nil old }

pub copies-more : (page size : ℕ) (image : List ℕ) (unread mid left old now new : Option (List ℕ))
    → Copies page size unread mid old now → length image ≡ size → MigratesPage page image mid left now new → Copies (page + 1) size unread left old new
copies-more page size image unread mid left old now new so_far fits next = let at : 0 + length so_far.images ≡ page = omega (arith, so_far.count) in record {
  images = so_far.images ++ image ∷ [];
  count = length-append so_far.images (image ∷ []) ∙ ap (λ n. n + 1) so_far.count;
  sized = sized-more size so_far.images image so_far.sized fits;
  read = read-more so_far.images image unread mid left so_far.read next.read;
  written = subst (Appends old new) (sym (slots-more numbered 0 so_far.images image ∙ ap (λ n. headed_file so_far.images ++ numbered n image) at))
      (Appends-trans old now new (headed_file so_far.images) (numbered page image) so_far.written next.written);
}

-- a writer that fails at a page fails after that page was read
pub fails-after : (page pages size : ℕ) (image : List ℕ) (unread mid left old now : Option (List ℕ)) (fault : MigrateFault)
    → Copies page size unread mid old now → page < pages → length image ≡ size → OnWriteFault fault (Consumes mid left image) → OnWriteFault fault (ReadsSome pages size unread left)
fails-after page pages size image unread mid left old now Write so_far few fits next = record {
  images = so_far.images ++ image ∷ [];
  some = omega (arith, length-append so_far.images (image ∷ []));
  few = omega (arith, few, so_far.count, length-append so_far.images (image ∷ []));
  sized = sized-more size so_far.images image so_far.sized fits;
  read = read-more so_far.images image unread mid left so_far.read next;
}
fails-after page pages size image unread mid left old now _ so_far few fits next = tt
