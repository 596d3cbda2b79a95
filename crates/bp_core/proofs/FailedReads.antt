-- A core stays one as a read fails, by whichever fault.
use Rattle.std.proofs.Common.{◌≡◌, ◌≢◌, ℕ, true, false, ◌∷◌, None, inr, filter}
use Rattle.std.specs.Prelude.{not, ◌==◌}
use Rattle.bp_page.specs.declared.refusals.PortFault.{PortFault}
use Rattle.bp_page.specs.declared.refusals.PortFault.TheVariants as fault
use Rattle.bp_replacer.specs.Histories.{Blocks, is_held, SameAt, SameStampsAt, SameSettings, KeepsPlaces}
use Rattle.bp_trail.specs.declared.entries.Call.TheVariants.{ReadEnd}
use Rattle.bp_trail.specs.declared.entries.Reply.TheVariants.{ReadFailed, WrongPage}
use Rattle.bp_trail.specs.Parameters.{Parameters}
use Rattle.bp_trail.specs.Event.{grant}
use Rattle.bp_trail.specs.Trail.{Trail}
use Rattle.bp_trail.specs.Passes.{reads_out}
use Rattle.bp_trail.specs.PageMap.FindsWrongPage.{another_page}
use Rattle.bp_trail.specs.Legal.{is_out}
use Rattle.bp_frames.specs.GrantLists.{Given, GivesAsMuch}
use Rattle.bp_core.specs.declared.state.State.{State}
use Rattle.bp_trail.specs.Ends.{read_failure}
use Rattle.bp_core.specs.CoreView.{CoreView, EachPast}
use Rattle.bp_keeper.specs.Kept.{Kept, with_next}
use Rattle.bp_core.specs.Agreement.{Parts, Agrees, IsCore, view_of}
use Rattle.bp_core.proofs.Steps.{by}
use Rattle.bp_core.proofs.KeepsLoads.{keeps-fail_load}

-- what a trail says does not depend on why a read failed
same-agrees : (c : Parameters) (past : Trail) (x : Parts) (who t p : ℕ) → Agrees c (by who (ReadEnd t p None) ReadFailed ∷ past) x → Agrees c (by who (ReadEnd t p None) WrongPage ∷ past) x
same-agrees c past x who t p a = record {
  legal = record { here = record { client = a.legal.here.client; allowed = a.legal.here.allowed; reply = inr (another_page t p) }; before = a.legal.before };
  observed = record {
    clock_is = a.observed.clock_is;
    durable_is = a.observed.durable_is;
    passes_is = a.observed.passes_is;
    tickets_is = a.observed.tickets_is;
    out_is = a.observed.out_is;
    reads_is = a.observed.reads_is;
    writes_is = a.observed.writes_is;
    frames_is = a.observed.frames_is;
    stamps_are = a.observed.stamps_are;
    held_is = a.observed.held_is;
  };
  k_is = a.k_is;
  correlated_is = a.correlated_is;
  retained_is = a.retained_is;
  in_time = a.in_time;
  by_now = a.by_now;
}

same-core : (c : Parameters) (trail : Kept) (x : State) (who t p : ℕ) → IsCore c (with_next trail who (ReadEnd t p None) ReadFailed) x → IsCore c (with_next trail who (ReadEnd t p None) WrongPage) x
same-core c trail x who t p core = record {
  agrees = same-agrees c trail.past _ who t p core.agrees;
  candidates = record { entries_are = core.candidates.entries_are; once = core.candidates.once; frames_is = core.candidates.frames_is; correlated_is = core.candidates.correlated_is };
  trail_room = record {
    small = core.trail_room.small;
    reserved = core.trail_room.reserved;
    counted = core.trail_room.counted;
    owed = core.trail_room.owed;
    passes_fit = core.trail_room.passes_fit;
    tickets_fit = core.trail_room.tickets_fit;
  };
  opening = core.opening;
  placed = core.placed;
  numbers = core.numbers;
  pass_room = core.pass_room;
  frame_room = core.frame_room;
}

module _ (c : Parameters) (trail : Kept) (x : State) (core : IsCore c trail x) (v : CoreView) (is : view_of c trail ≡ v) (who p t : ℕ) (known : EachPast v (λ past. is_out (grant who p t) (reads_out past) ≡ true)) where
  pub keeps-failed : (f : PortFault) (rs : Given) → rs.out ≡ filter (λ g. not (g.serial == t)) x.reads.out → GivesAsMuch x.reads rs → (h : Blocks) → SameSettings x.histories h → SameStampsAt x.histories h p → ((q : ℕ) → q ≢ p → SameAt x.histories h q) → is_held h p ≡ false → KeepsPlaces x.histories h
      → IsCore c (with_next trail who (ReadEnd t p None) (read_failure f)) (record x { reads = rs; histories = h })
  keeps-failed fault.WrongPage rs left more h settings stamps others gone places =
      same-core c trail _ who t p (keeps-fail_load c trail x core v is who p t known rs left more h settings stamps others gone places)
  keeps-failed _ rs left more h settings stamps others gone places = keeps-fail_load c trail x core v is who p t known rs left more h settings stamps others gone places
