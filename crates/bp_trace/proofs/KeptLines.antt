-- The lines that are kept, with those of one entry more.
use Rattle.std.proofs.Common.{◌≡◌, ◌∙◌, refl, sym, ap, ℕ, zero, suc, take, codes, ◌+◌, ◌<◌, ◌^◌, min, List, [], ◌∷◌, ◌++◌, reverse, append_assoc, arith}
use Rattle.std.specs.List.{flat_map}
use Rattle.std.proofs.lemmas.List.{append-nil, flat_map_more, reverse-append, reverse-reverse}
use Rattle.std.specs.Fmt.{decimal}
use Rattle.hex.specs.Hex.{encode_lower}
use Rattle.bp_trail.specs.declared.entries.Entry.{Entry}
use Rattle.bp_trail.specs.declared.entries.Call.{Call}
use Rattle.bp_trail.specs.declared.entries.Reply.{Reply}
use Rattle.bp_trail.specs.Event.{page_of}
use Rattle.bp_trail.specs.Trail.{Trail}
use Rattle.bp_trail.specs.Clock.{clock}
use Rattle.bp_trace.specs.declared.printing.kept.ReportLine.{ReportLine}
use Rattle.bp_trace.specs.declared.printing.kept.ReportLines.{ReportLines}
use Rattle.bp_trace.specs.Lines.{event_line, line_of, read_line}
use Rattle.bp_trace.specs.Report.{lines_after, steps_of}
use Rattle.bp_trace.specs.KeptLines.{HasLines, HasNoLine, text_of}
use Rattle.bp_trace.proofs.Entries.{clock-next}

lines_after-push : (past : Trail) (xs : List Entry) (e : Entry) → lines_after past (xs ++ e ∷ []) ≡ lines_after past xs ++ event_line (clock (reverse xs ++ past)) e
unfolding lines_after
lines_after-push past [] e = append-nil (event_line (clock past) e)
lines_after-push past (x ∷ xs) e =
    ap (λ t. event_line (clock past) x ++ t) (lines_after-push (x ∷ past) xs e)
    ∙ sym (append_assoc (event_line (clock past) x) (lines_after (x ∷ past) xs) (event_line (clock (reverse xs ++ x ∷ past)) e))
    ∙ ap (λ (q : Trail). (event_line (clock past) x ++ lines_after (x ∷ past) xs) ++ event_line (clock q) e) (sym (ap (λ (q : Trail). q ++ past) (reverse-append (x ∷ []) xs) ∙ append_assoc (reverse xs) (x ∷ []) past))

lines-next : (past : Trail) (e : Entry) → lines_after [] (reverse (e ∷ past)) ≡ lines_after [] (reverse past) ++ event_line (clock past) e
lines-next past e =
    ap (lines_after []) (reverse-append (e ∷ []) past) ∙ lines_after-push [] (reverse past) e
    ∙ ap (λ (q : Trail). lines_after [] (reverse past) ++ event_line (clock q) e) (append-nil (reverse (reverse past)) ∙ reverse-reverse past)

module _ (past : Trail) (client : ℕ) (call : Call) (reply : Reply) (old new : ReportLines) (has : HasLines past old) (moves : old.time ≡ clock past → clock past + steps_of call < 2 ^ 64 → new.time ≡ clock past + steps_of call) where
  abbrev pub next : Entry
  next = record { client = client; call = call; reply = reply }

  earlier : clock (next ∷ past) < 2 ^ 64 → clock past < 2 ^ 64
  earlier early = omega (arith, clock-next past client call reply, early)

  time-next : clock (next ∷ past) < 2 ^ 64 → new.time ≡ clock (next ∷ past)
  time-next early = moves (has.time (earlier early)) (omega (arith, clock-next past client call reply, early)) ∙ sym (clock-next past client call reply)

  line-is : (text : List ℕ) → text ≡ line_of old.time client (page_of call) reply → clock past < 2 ^ 64 → text ≡ event_line (clock past) next
  line-is text is early = is ∙ ap (λ n. line_of n client (page_of call) reply) (has.time early)

  pub has-line : (line : ReportLine) → text_of line ≡ line_of old.time client (page_of call) reply → new.lines.items ≡ old.lines.items ++ line ∷ [] → HasLines (next ∷ past) new
  has-line line is added = record {
    time = time-next;
    lines = λ early. ap (flat_map text_of) added ∙ sym (flat_map_more text_of [] old.lines.items line)
        ∙ ap (λ t. t ++ text_of line) (has.lines (earlier early))
        ∙ ap (λ t. lines_after [] (reverse past) ++ t) (line-is (text_of line) is (earlier early))
        ∙ sym (lines-next past next);
  }

  pub has-none : [] ≡ line_of old.time client (page_of call) reply → new.lines.items ≡ old.lines.items → HasLines (next ∷ past) new
  has-none is same = record {
    time = time-next;
    lines = λ early. ap (flat_map text_of) same ∙ has.lines (earlier early) ∙ sym (append-nil (lines_after [] (reverse past)))
        ∙ ap (λ t. lines_after [] (reverse past) ++ t) (line-is [] is (earlier early))
        ∙ sym (lines-next past next);
  }

-- what kept the time and the lines has them still, if the entry takes no time and has no line
pub still : (past : Trail) (client : ℕ) (call : Call) (reply : Reply) (kept : ReportLines) → HasLines past kept → steps_of call ≡ 0 → HasNoLine reply → HasLines (record { client = client; call = call; reply = reply } ∷ past) kept
still past client call reply kept has none empty =
    has-none past client call reply kept kept has (λ is early. omega (arith, is, none)) (sym (empty kept.time client (page_of call))) refl

-- the time of the saturated sum
pub moved : (old new steps now : ℕ) → new ≡ min (old + steps) 18446744073709551615 → old ≡ now → now + steps < 2 ^ 64 → new ≡ now + steps
moved old new steps now sum is early = omega (arith, sum, is, early)

-- none yet
pub first : (kept : ReportLines) → kept.time ≡ 1 → kept.lines.items ≡ [] → HasLines [] kept
unfolding lines_after
first kept is none = record { time = λ early. is; lines = λ early. ap (flat_map text_of) none }

take-twice : (n : ℕ) (xs : List ℕ) → take n (take n xs) ≡ take n xs
take-twice zero xs = refl
take-twice (suc n) [] = refl
take-twice (suc n) (x ∷ xs) = ap (λ t. x ∷ t) (take-twice n xs)

-- the line shows no more than the front
pub read-front : (client page : ℕ) (front image : List ℕ) → front ≡ take 16 image → read_line client page front ≡ read_line client page image
unfolding read_line
read-front client page front image is =
    ap (λ t. codes "read " ++ decimal client ++ codes " " ++ decimal page ++ codes " " ++ encode_lower t ++ codes "\n") (ap (take 16) is ∙ take-twice 16 image)
