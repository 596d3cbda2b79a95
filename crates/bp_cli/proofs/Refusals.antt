-- What clap's refusals decide.
use Rattle.std.proofs.Common.{◌≡◌, ◌∙◌, ◌⊎◌, inl, inr, sym, subst, List, Err}
use Rattle.clap.specs.Kinds.{HasKind, IsAmong, Kinds}
use Rattle.clap.specs.Values.{kind_of}
use Rattle.clap.specs.Words.{Text}
use Rattle.clap.specs.declared.error.Error.{Error}
use Rattle.clap.specs.declared.error.kind.ErrorKind.{ErrorKind}
use Rattle.clap.specs.declared.error.kind.ErrorKind.TheVariants.{DisplayHelp, DisplayVersion, OutOfMemory}
use Rattle.bp_cli.specs.Decision.{IsDecision, IsRefusal}
use Rattle.bp_cli.specs.Words.{fault_in}
use Rattle.bp_cli.specs.declared.ending.Ending.{Ending}
use Rattle.bp_cli.specs.declared.ending.Ending.TheVariants as ending

-- a kind that is not want of memory is among those of the words
of_words : (kinds : Kinds) (kind : ErrorKind) → (kind ≡ OutOfMemory) ⊎ IsAmong kind kinds → (kind ≡ OutOfMemory → ⊥) → IsAmong kind kinds
of_words kinds kind (inl memory) other = absurd (other memory)
of_words kinds kind (inr among) other = among

pub refusal_decides : (words : List Text) (error : Error) (end : Ending) → HasKind (fault_in words) error → IsRefusal (kind_of error) end → IsDecision words (Err end)
refusal_decides words error (ending.Help text) has is =
    subst (λ (kind : ErrorKind). IsAmong kind (fault_in words)) is (of_words (fault_in words) (kind_of error) has (λ memory. let bad : DisplayHelp ≡ OutOfMemory = sym is ∙ memory in cc))
refusal_decides words error ending.Version has is =
    subst (λ (kind : ErrorKind). IsAmong kind (fault_in words)) is (of_words (fault_in words) (kind_of error) has (λ memory. let bad : DisplayVersion ≡ OutOfMemory = sym is ∙ memory in cc))
refusal_decides words error (ending.CommandLine line) has is = (kind_of error, of_words (fault_in words) (kind_of error) has is.1, is.0)
refusal_decides words error (ending.RunRefused refusal) has is = is
refusal_decides words error other has is = absurd is
