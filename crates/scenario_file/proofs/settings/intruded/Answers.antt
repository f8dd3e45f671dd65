-- The numbers of the list are masters that are there, so the set can be made of them. Without the key no master
-- is intruded.
use Rattle.std.proofs.Common.{◌<◌, sym, arith, map}
use Rattle.std.specs.Prelude.{codes, All, slice_index_or}
use Rattle.toml.specs.View.{view, table_view}
use Rattle.scenario_file.proofs.RowLaws.{all-at}
use Rattle.scenario_file.proofs.SettingsLaws.{masters-there, intruded_of-default}
use Rattle.scenario_file.proofs.settings.intruded.Goals as goal

pub set_of-requires : goal.set_of-requires
set_of-requires c =
    let masters = c.in_ok-numbers-in-Some.numbers in
    let there : All (λ m. m < c.args.masters) masters =
    all-at (λ m. m < c.args.masters) masters
    (masters-there (codes "intruded") c.args.masters (map view c.in_ok-values-in-Some.values.now)
    masters c.in_ok-numbers-in-Some.ensures) in
    let few = c.requires.few in
    rw c.as_slice.ensures (λ k d inside. let below : slice_index_or masters k d < c.args.masters =
    there k d inside in omega arith)

pub returns-in-None : goal.returns-in-None
returns-in-None c = rw c.empty.ensures
    (intruded_of-default c.args.masters (table_view c.args.document.now.table.now) (sym c.in-None.ensures))
