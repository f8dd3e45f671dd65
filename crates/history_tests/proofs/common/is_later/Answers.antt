-- `all` over the slice tests each entry, and an entry's stamp is that of the entry that it stands for.
use Rattle.std.proofs.Common.{nat_lt, sym, ◌∙◌, rules, tests}
use Rattle.std.proofs.lemmas.Iterator.{YieldsList-from_slice}
use Rattle.std.proofs.lemmas.Iterator.Search.{all_from_yields_List}
use Rattle.std.proofs.lemmas.List.Folds.{list_all-map}
use Rattle.history_rules.specs.Events as rules_of
use Rattle.world_entries.specs.declared.entry.Entry.{Entry}
use Rattle.world_entries.specs.Entries.{entry_of}
use Rattle.history_tests.proofs.common.is_later.Goals as goal

pub returns : goal.returns
returns c =
    all_from_yields_List (λ (e : Entry). nat_lt e.stamp c.args.stamp) _ _ _ c.all.ensures.ran
    (YieldsList-from_slice c.args.list.now cc)
    (λ x b q k. search (rules, tests))
    ∙ sym (list_all-map (λ (e : rules_of.Entry). nat_lt e.stamp c.args.stamp) entry_of c.args.list.now)
