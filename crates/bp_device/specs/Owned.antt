-- What a pool with one owner is seen as, and what its calls answer and leave. Its owner is client
-- 0.
use Rattle.std.specs.Prelude.{◌≡◌, ◌⊎◌, ℕ, ◌+◌, ◌<◌, ◌≤◌, Bool, true, false, List, Result, Ok}
use Rattle.std.specs.Prelude.{Err, IfErr}
use Rattle.bp_page.specs.declared.limits.Geometry.{Geometry}
use Rattle.bp_page.specs.declared.refusals.Refusal.{Refusal}
use Rattle.bp_page.specs.declared.refusals.Refusal.TheVariants as refusal
use Rattle.bp_trail.specs.declared.entries.Call.TheVariants as call
use Rattle.bp_trail.specs.declared.ends.Flushed.{Flushed}
use Rattle.bp_trail.specs.Images.{held}
use Rattle.bp_trail.specs.Parameters.{Parameters}
use Rattle.bp_core.specs.declared.passes.Pass.{Pass}
use Rattle.bp_core.specs.CoreView.{CoreView}
use Rattle.bp_core.specs.Outcomes.{TickOutcome, NewOutcome, UnfixOutcome}
use Rattle.bp_device.specs.Drivers.{DrivesFix, DrivesFlush, IsCaused}

-- its core, its port, and whether its clock moves at each fix
pub record OwnedView (P : Type 0) : Type 0 where
  pub core : CoreView
  pub port : P
  pub is_ticking : Bool

-- a device of the core's pages, where the core has a client 0
pub record IsDeviceOf (core : CoreView) (device : Geometry) : Type 0 where
  pub pages : device.pages ≡ core.parameters.pages
  pub size : device.size ≡ core.parameters.size
  pub owner : 0 < core.parameters.clients

-- the core of a pool that was made
abbrev pub core_made : {P : Type 0} → Result (OwnedView P) Refusal → Result CoreView Refusal
core_made (Ok pool) = Ok pool.core
core_made (Err why) = Err why

-- a new pool over a port, whose core is as it was asked for, or why not
abbrev pub Opens : {P : Type 0} → ℕ → Parameters → P → Result (OwnedView P) Refusal → Type 0
Opens most_room asked port (Ok pool) =
    NewOutcome most_room asked (Ok pool.core) × (pool.port ≡ port) × (pool.is_ticking ≡ true)
Opens most_room asked port (Err why) = NewOutcome most_room asked (Err why)

-- refused, with nothing changed
abbrev pub IsRefused : {A S : Type 0} → Refusal → S → Result A Refusal → S → Type 0
IsRefused why old result new = (result ≡ Err why) × (new ≡ old)

-- Q for a page of the file, and for any other OutOfPage
abbrev pub ForPage : {A S : Type 0} → Parameters → ℕ → S → Result A Refusal → S → Type 0 → Type 0
ForPage c page old result new Q =
    (page < c.pages → Q) × (c.pages ≤ page → IsRefused refusal.OutOfPage old result new)

-- Q for bytes within a page, and for others OutOfPage
abbrev pub ForPart : {A S : Type 0} → Parameters → ℕ → ℕ → S → Result A Refusal → S → Type 0
    → Type 0
ForPart c offset len old result new Q =
    (offset + len ≤ c.size → Q)
    × (c.size < offset + len → IsRefused refusal.OutOfPage old result new)

-- the clock has moved on by one, where it moves at each fix
abbrev pub IsTicked : Bool → CoreView → CoreView → Type 0
IsTicked true old new = TickOutcome {A = Unit {0}} old 0 1 (Ok tt) new
IsTicked false old new = new ≡ old

-- a tick that was refused
abbrev pub IsUnticked : {A : Type 0} → Bool → CoreView → Result A Refusal → CoreView → Type 0
IsUnticked ticks old (Ok done) new = ⊥
IsUnticked ticks old (Err why) new =
    (ticks ≡ true) × TickOutcome {A = Unit {0}} old 0 1 (Err why) new

-- the clock moved, where it does, and then the page was fixed
pub record TicksAndFixes (ticks : Bool) (old : CoreView) (page : ℕ) (result : Result Pass Refusal)
    (new : CoreView) : Type 0 where
  pub mid : CoreView
  pub ticked : IsTicked ticks old mid
  pub fixed : DrivesFix mid 0 page result new
  pub caused : IfErr result (λ why. IsCaused (call.Fix page) why new)

-- a fix by the owner: where its tick is refused, that is all
abbrev pub OwnerFixes : Bool → CoreView → ℕ → Result Pass Refusal → CoreView → Type 0
OwnerFixes ticks old page result new =
    IsUnticked ticks old result new ⊎ TicksAndFixes ticks old page result new

-- a flush by the owner
pub record OwnerFlushes (old : CoreView) (page : ℕ) (result : Result Flushed Refusal)
    (new : CoreView) : Type 0 where
  pub flushed : DrivesFlush old 0 page result new
  pub caused : IfErr result (λ why. IsCaused (call.Flush page) why new)

-- a call that changes its core alone
abbrev pub KeepsPort : {P : Type 0} → OwnedView P → OwnedView P → Type 0
KeepsPort old new = (new.port ≡ old.port) × (new.is_ticking ≡ old.is_ticking)

-- a pass goes back
abbrev pub GoesBack : CoreView → Pass → CoreView → Type 0
GoesBack old pass new = UnfixOutcome {A = Unit {0}} old pass (Ok tt) new

-- a page was fixed, this was returned of its image, and the pass went back
pub record LooksAt {T : Type 0} (returns : List ℕ → T → Type 0) (ticks : Bool) (old : CoreView)
    (page : ℕ) (done : T) (new : CoreView) : Type 0 where
  pub pass : Pass
  pub mid : CoreView
  pub fixed : OwnerFixes ticks old page (Ok pass) mid
  pub returned : returns (held mid.past page) done
  pub back : GoesBack mid pass new

-- or its fix was refused
abbrev pub Looks : {T : Type 0} → (List ℕ → T → Type 0) → Bool → CoreView → ℕ → Result T Refusal
    → CoreView → Type 0
Looks returns ticks old page (Ok done) new = LooksAt returns ticks old page done new
Looks returns ticks old page (Err why) new = OwnerFixes ticks old page (Err why) new
