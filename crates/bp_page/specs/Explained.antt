-- What the refusal, or the fault of a trace or of a list, with each number says.
use Rattle.std.specs.Prelude.{ℕ, ◌==◌, List, [], ◌∷◌, codes, find, Option, option_map}

abbrev pub explanations : List (ℕ × List ℕ)
explanations = (
  1,
  codes
      "the number of pages, as of different references, or the page size is out of its limits",
)
    ∷ (2, codes "a setting of the pool is out of its limits")
    ∷ (3, codes "the page file is no positive number of whole pages, or has too many")
    ∷ (11, codes "no page may leave its frame")
    ∷ (12, codes "the log must first be durable as far as the page was changed")
    ∷ (13, codes "a device operation on the page is under way")
    ∷ (14, codes "no such pass is out")
    ∷ (16, codes "no such ticket is out")
    ∷ (17, codes "the page could not be read")
    ∷ (18, codes "the page could not be written")
    ∷ (19, codes "the page's place in its file has another page")
    ∷ (20, codes "the trail has no room for the call")
    ∷ (21, codes "the clock would pass its end")
    ∷ (22, codes "out of memory")
    ∷ (23, codes "the ring of passes to give back is full")
    ∷ (24, codes "a mark came before the log rows of client 0 allow it")
    ∷ (25, codes "the page is pinned")
    ∷ (
      40,
      codes
          "a record does not have the fields of its operation, or lacks the column of a sweep",
    )
    ∷ (41, codes "no client has this number here")
    ∷ (42, codes "no operation has this name")
    ∷ (43, codes "a field is not a number within the limits")
    ∷ (44, codes "the bytes are not pairs of hexadecimal digits")
    ∷ (45, codes "the page is not of the file, or the bytes are not within the page")
    ∷ (46, codes "the trace or the list of references is too long")
    ∷ (47, codes "the trace or the list of references could not be read")
    ∷ []

-- the text of this number, if it is one of these
abbrev pub explanation_of : ℕ → Option (List ℕ)
explanation_of number = option_map (λ p. p.1) (find (λ p. number == p.0) explanations)
