-- Legal trails keep the rules of the pool, and a bound that was tested is the bound row by row.
use Rattle.std.proofs.Common.{List, [], ◌∷◌, ◌≡◌, ◌∙◌, sym, ap, reverse}
use Rattle.bp_trail.specs.declared.entries.Entry.{Entry}
use Rattle.bp_scripts.specs.declared.rows.Row.{Row}
use Rattle.bp_scripts.specs.declared.rows.Refused.{Refused}
use Rattle.bp_trail.specs.Parameters.{Parameters}
use Rattle.bp_trail.specs.Trail.{Trail}
use Rattle.bp_trail.specs.Lists.{EachEntry}
use Rattle.bp_trail.specs.Legal.{Legal}
use Rattle.bp_trail.specs.PageMap.{MayReply}
use Rattle.bp_trail.specs.Pieces.Manner.{session}
use Rattle.bp_trail.specs.Clients.{of_client}
use Rattle.bp_trail.proofs.LegalLaws.{each-evicts, each-first, each-farthest, each-discards, each-durable, each-answers}
use Rattle.bp_trail.proofs.OfClient.{of_client-reverse}
use Rattle.bp_scripts.specs.Script.{Follows}
use Rattle.bp_scripts.specs.LogBound.{IsWithinLog}
use Rattle.bp_scripts.proofs.InPieces.{bounded_by_its_row}
use Rattle.bp_replay.specs.Rules.{KeepsRules}
use Rattle.bp_replay.specs.ScriptRuns.{MarksByRows}

each-replies : (c : Parameters) (past : Trail) → Legal c past → EachEntry (λ before e. MayReply c before e.call e.reply) past
each-replies c [] legal = tt
each-replies c (e ∷ past) legal = record { here = legal.here.reply; before = each-replies c past legal.before }

pub rules-kept : (c : Parameters) (trail : List Entry) → Legal c (reverse trail) → KeepsRules c trail
rules-kept c trail legal = record {
  replies = each-replies c (reverse trail) legal;
  evictions = each-evicts c (reverse trail) legal;
  victims = each-first c (reverse trail) legal;
  farthest = each-farthest c (reverse trail) legal;
  discards = each-discards c (reverse trail) legal;
  write_outs = each-durable c (reverse trail) legal;
  contents = each-answers c (reverse trail) legal;
}

pub marks-by-rows : (script : List Row) (trail said : List Entry) (refusals : List Refused) (cut : Follows session script (reverse said) refusals) → said ≡ of_client 0 trail → IsWithinLog script cut.ends (reverse trail) → MarksByRows script trail said refusals cut
marks-by-rows script trail said refusals cut theirs within newer past e is client plain =
    bounded_by_its_row session script (reverse trail) newer past (reverse said) e refusals cut (ap reverse theirs ∙ sym (of_client-reverse 0 trail)) within is client plain
