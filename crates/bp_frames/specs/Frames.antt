-- Lists of frames.
use Rattle.std.specs.Prelude.{◌≡◌, ℕ, ◌+◌, ◌-◌, ◌≤◌, max, All, Bool, true, false, not, ◌&&◌, ◌==◌}
use Rattle.std.specs.Prelude.{List, filter}
use Rattle.std.specs.Prelude.{map, Option, Some, None, is_some, nat_lt, if◌then◌else◌}
use Rattle.std.specs.Option.{option_map_or}
use Rattle.bp_references.specs.Candidates.{Candidate}
use Rattle.bp_trail.specs.Lists.{or_less, some}
use Rattle.bp_page.specs.Patched.{patched}
use Rattle.bp_frames.specs.declared.frame.Frame.{Frame}

abbrev pub is_frame_of : ℕ → Frame → Bool
is_frame_of page frame = frame.page == page

-- no pass of its page is out, and no write-out of it is under way
abbrev pub is_unused : Frame → Bool
is_unused f = (f.pins == 0) && not f.is_writing

-- a pass of its page is out, and some write of it is not saved
abbrev pub is_pinned : Frame → Bool
is_pinned f = nat_lt 0 f.pins

abbrev pub is_to_save : Frame → Bool
is_to_save f = is_some f.first_lsn

-- the frame of a page has writes that are not saved
abbrev pub has_unsaved : List Frame → ℕ → Bool
has_unsaved frames page = some (λ f. is_frame_of page f && is_to_save f) frames

-- the least LSN of its unsaved writes is this one
abbrev pub has_first : ℕ → Frame → Bool
has_first lsn f = option_map_or (λ first. first == lsn) f.first_lsn false

-- the least LSN of all unsaved writes, None where there are none
abbrev pub IsLeastUnsaved : List Frame → Option ℕ → Type 0
IsLeastUnsaved frames None = All (λ f. f.first_lsn ≡ None) frames
IsLeastUnsaved frames (Some lsn) =
    (some (has_first lsn) frames ≡ true)
    × All (λ f. (m : ℕ) → f.first_lsn ≡ Some m → lsn ≤ m) frames

-- how a page stands in the order of those that are unsaved, where the least LSN of its unsaved
-- writes is this one
abbrev pub seat_for : ℕ → Option ℕ → Option Candidate
seat_for page None = None
seat_for page (Some lsn) = Some (lsn, 0, page)

-- what a good read leaves, with the block of the page's references and the pass that it gives
abbrev pub loaded_with : ℕ → ℕ → List ℕ → Frame
loaded_with page block image =
    record {
      page = page;
      block = Some block;
      pins = 1;
      is_unsaved = false;
      is_rewritten = false;
      is_writing = false;
      first_lsn = None;
      rewritten_lsn = None;
      page_lsn = 0;
      image = image;
    }

-- one more pass, and one fewer
abbrev pub pinned : Frame → Frame
pinned f = record f { pins = f.pins + 1 }

abbrev pub unpinned : Frame → Frame
unpinned f = record f { pins = f.pins - 1 }

abbrev pub written_on : ℕ → List ℕ → ℕ → Frame → Frame
written_on offset bytes lsn f =
    record f {
      is_unsaved = true;
      is_rewritten = true;
      first_lsn = or_less (Some lsn) f.first_lsn;
      rewritten_lsn = or_less (Some lsn) f.rewritten_lsn;
      page_lsn = max lsn f.page_lsn;
      image = patched offset bytes f.image;
    }

-- a write-out begins, ends well, and fails
abbrev pub saving : Frame → Frame
saving f = record f { is_rewritten = false; rewritten_lsn = None; is_writing = true }

abbrev pub saved : Frame → Frame
saved f =
    record f { is_unsaved = f.is_rewritten; first_lsn = f.rewritten_lsn; is_writing = false }

abbrev pub not_saved : Frame → Frame
not_saved f = record f { is_writing = false }

-- the frame of a page changed, the others as they were
unfoldable pub changed_at : ℕ → (Frame → Frame) → List Frame → List Frame
changed_at page change frames = map (λ f. if is_frame_of page f then change f else f) frames

unfoldable pub without_page : ℕ → List Frame → List Frame
without_page page frames = filter (λ f. not (is_frame_of page f)) frames
