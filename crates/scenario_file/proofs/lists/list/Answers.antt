-- A value that is a list is checked for its length, which is what the definition asks. Any other value is a bad
-- one under the name of its key.
use Rattle.std.proofs.Common.{◌++◌, sym, subst, map, List, Result, Bor}
use Rattle.toml.specs.Data.{Data}
use Rattle.toml.specs.View.{view}
use Rattle.toml.specs.declared.value.Value.{Value}
use Rattle.scenario_file.specs.declared.refusal.ScenarioRefusal.{ScenarioRefusal}
use Rattle.scenario_file.specs.declared.refusal.ScenarioRefusal.TheVariants.{BadValue}
use Rattle.scenario_file.specs.Answers.{Shows}
use Rattle.scenario_file.proofs.Gathering.{list_in-array, list_in-other, shown-fault}
use Rattle.scenario_file.proofs.lists.list.Goals as goal

abbrev seen : Bor (List Value) → List Data
seen s = map view s.now

abbrev IsShown : Result (Bor (List Value)) ScenarioRefusal → Result (List Data) ScenarioRefusal → Type 0
IsShown r right = Shows seen r right

pub returns-in-Some : goal.returns-in-Some
returns-in-Some c =
    let there = list_in-array (c.args.at.now ++ c.args.key.now) c.args.fewest c.args.most (view c.args.value.now)
    c.in-Some.items.now.items c.in-Some.ensures in
    subst (IsShown c.sized.result) (sym there) (rw c.as_slice.ensures.value at c.sized.ensures)

pub returns-in-None : goal.returns-in-None
returns-in-None c =
    let other = list_in-other (c.args.at.now ++ c.args.key.now) c.args.fewest c.args.most
    (view c.args.value.now) c.in-None.ensures in
    subst (IsShown c.bad.result) (sym other)
    (shown-fault seen c.bad.result (BadValue (c.args.at.now ++ c.args.key.now)) c.bad.ensures)
