use Rattle.std.proofs.Common.{refl}
use Rattle.clap.proofs.OnLiterals.{clap_on_literals}
use Rattle.bp_trace.specs.NumberLists.{doubled}
use Rattle.bp_trace.specs.Numbers.{digits_in, number_in}
use Rattle.bp_cli.proofs.laws.words_by_example.Goals as goal

pub returns-clause-none : goal.returns-clause-none
unfolding clap_on_literals
returns-clause-none c = refl

pub returns-clause-defaults : goal.returns-clause-defaults
unfolding clap_on_literals
returns-clause-defaults c = refl

pub returns-clause-all : goal.returns-clause-all
unfolding clap_on_literals
returns-clause-all c = refl

pub returns-clause-out_of_range : goal.returns-clause-out_of_range
unfolding clap_on_literals
returns-clause-out_of_range c = refl

pub returns-clause-unknown : goal.returns-clause-unknown
unfolding clap_on_literals
returns-clause-unknown c = refl

pub returns-clause-no_order : goal.returns-clause-no_order
unfolding clap_on_literals
returns-clause-no_order c = refl

pub returns-clause-no_version : goal.returns-clause-no_version
unfolding clap_on_literals
returns-clause-no_version c = refl

pub returns-clause-migration : goal.returns-clause-migration
unfolding clap_on_literals
returns-clause-migration c = refl

pub returns-clause-no_size : goal.returns-clause-no_size
unfolding clap_on_literals
returns-clause-no_size c = refl

pub returns-clause-help : goal.returns-clause-help
unfolding clap_on_literals
returns-clause-help c = refl

pub returns-clause-sweep : goal.returns-clause-sweep
unfolding clap_on_literals number_in digits_in doubled
returns-clause-sweep c = refl

pub returns-clause-sweep_all : goal.returns-clause-sweep_all
unfolding clap_on_literals number_in digits_in doubled
returns-clause-sweep_all c = refl

pub returns-clause-empty_part : goal.returns-clause-empty_part
unfolding clap_on_literals number_in digits_in
returns-clause-empty_part c = refl

pub returns-clause-backwards : goal.returns-clause-backwards
unfolding clap_on_literals number_in digits_in
returns-clause-backwards c = refl

pub returns-clause-too_great : goal.returns-clause-too_great
unfolding clap_on_literals number_in digits_in
returns-clause-too_great c = refl

pub returns-clause-draws_over : goal.returns-clause-draws_over
unfolding clap_on_literals number_in digits_in
returns-clause-draws_over c = refl

pub returns-clause-no_list : goal.returns-clause-no_list
unfolding clap_on_literals number_in digits_in
returns-clause-no_list c = refl

pub returns-clause-explanation : goal.returns-clause-explanation
unfolding clap_on_literals number_in digits_in
returns-clause-explanation c = refl

pub returns-clause-no_number : goal.returns-clause-no_number
unfolding clap_on_literals number_in digits_in
returns-clause-no_number c = refl

pub returns-clause-version : goal.returns-clause-version
unfolding clap_on_literals
returns-clause-version c = refl
