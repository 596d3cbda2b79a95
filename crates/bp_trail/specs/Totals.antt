-- How many replies of each kind a list of entries has. The order of the entries does not matter.
use Rattle.std.specs.Prelude.{◌≡◌, ℕ, ◌+◌, ◌^◌, ◌<◌, Bool, true, false, if◌then◌else◌, List, length, Some, count_by}
use Rattle.bp_trail.specs.declared.entries.Entry.{Entry}
use Rattle.bp_trail.specs.declared.entries.Reply.{Reply}
use Rattle.bp_trail.specs.declared.entries.Reply.TheVariants.{Hit, Load, NoVictim, NeedLog, Busy, Fixed, ReadFailed, WrongPage, Cleaned, StillDirty, WriteFailed, Discarded, Pinned}
use Rattle.bp_trail.specs.declared.totals.Totals.{Totals}

abbrev pub is_hit : Reply → Bool
is_hit (Hit pass) = true
is_hit _ = false

abbrev pub is_fault : Reply → Bool
is_fault (Fixed pass) = true
is_fault _ = false

abbrev pub is_eviction : Reply → Bool
is_eviction (Load ticket (Some victim)) = true
is_eviction _ = false

abbrev pub is_write : Reply → Bool
is_write Cleaned = true
is_write StillDirty = true
is_write _ = false

abbrev pub is_failure : Reply → Bool
is_failure ReadFailed = true
is_failure WrongPage = true
is_failure WriteFailed = true
is_failure _ = false

abbrev pub is_refusal : Reply → Bool
is_refusal NoVictim = true
is_refusal (NeedLog lsn) = true
is_refusal Busy = true
is_refusal Pinned = true
is_refusal _ = false

abbrev pub is_discarded : Reply → Bool
is_discarded Discarded = true
is_discarded _ = false

-- how many replies of the entries pass a test
abbrev pub replies : (Reply → Bool) → List Entry → ℕ
replies test entries = count_by (λ e. test e.reply) entries

unfoldable pub totals_of : List Entry → Totals
totals_of entries = record {
  hits = replies is_hit entries;
  faults = replies is_fault entries;
  evictions = replies is_eviction entries;
  writes = replies is_write entries;
  failed = replies is_failure entries;
  refused = replies is_refusal entries;
  discards = replies is_discarded entries;
}

abbrev pub no_totals : Totals
no_totals = record {
  hits = 0;
  faults = 0;
  evictions = 0;
  writes = 0;
  failed = 0;
  refused = 0;
  discards = 0;
}

-- one more where the test passes
abbrev pub one : Bool → ℕ
one b = if b then 1 else 0

-- the totals with one more reply
abbrev pub counted : Reply → Totals → Totals
counted r t = record {
  hits = t.hits + one (is_hit r);
  faults = t.faults + one (is_fault r);
  evictions = t.evictions + one (is_eviction r);
  writes = t.writes + one (is_write r);
  failed = t.failed + one (is_failure r);
  refused = t.refused + one (is_refusal r);
  discards = t.discards + one (is_discarded r);
}

-- each total may grow by one
pub record HasRoom (t : Totals) : Type 0 where
  pub hits : t.hits + 1 < 2 ^ 64
  pub faults : t.faults + 1 < 2 ^ 64
  pub evictions : t.evictions + 1 < 2 ^ 64
  pub writes : t.writes + 1 < 2 ^ 64
  pub failed : t.failed + 1 < 2 ^ 64
  pub refused : t.refused + 1 < 2 ^ 64
  pub discards : t.discards + 1 < 2 ^ 64

-- totals that are counted reply by reply are right as long as there are fewer than 2^64 entries
abbrev pub CountsAll : List Entry → Totals → Type 0
CountsAll entries t = length entries < 2 ^ 64 → t ≡ totals_of entries

-- two totals together
abbrev pub both : Totals → Totals → Totals
both t u = record {
  hits = t.hits + u.hits;
  faults = t.faults + u.faults;
  evictions = t.evictions + u.evictions;
  writes = t.writes + u.writes;
  failed = t.failed + u.failed;
  refused = t.refused + u.refused;
  discards = t.discards + u.discards;
}

-- no total of the two together is too large for a number of 64 bits
pub record FitTogether (t u : Totals) : Type 0 where
  pub hits : t.hits + u.hits < 2 ^ 64
  pub faults : t.faults + u.faults < 2 ^ 64
  pub evictions : t.evictions + u.evictions < 2 ^ 64
  pub writes : t.writes + u.writes < 2 ^ 64
  pub failed : t.failed + u.failed < 2 ^ 64
  pub refused : t.refused + u.refused < 2 ^ 64
  pub discards : t.discards + u.discards < 2 ^ 64
