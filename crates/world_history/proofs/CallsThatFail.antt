-- The calls of an actor's keeper, counted over its entries, and which of them fail.
use Rattle.std.proofs.Common.{◌≡◌, ℕ, ◌+◌, ◌<◌, List, [], ◌∷◌, Option, None, Some, length, map, take, get_or, sym}
use Rattle.std.proofs.Common.{◌∙◌, ap}
use Rattle.std.proofs.lemmas.List.{append-nil, length-append, map_more}
use Rattle.std.proofs.lemmas.List.Concat.{flat_map-append}
use Rattle.std.proofs.lemmas.Option.{get_or_from_slice_get, unwrap_or-slice_get}
use Rattle.std.specs.List.{flat_map, slice_get}
use Rattle.std.specs.Option.{unwrap_or}
use Rattle.scenario_file.specs.Reading.{Contents}
use Rattle.history_rules.specs.Keeping.{KeeperCall, keeper_calls, calls_at}
use Rattle.world_entries.specs.declared.entry.Entry.{Entry as KeptEntry}
use Rattle.world_entries.specs.Entries.{entry_of}
use Rattle.world_rules.specs.Scenarios.{setup_of}
use Rattle.world_rules.proofs.Fields.{setup_goes_by}

pub calls_more : (xs : List KeptEntry) (i : ℕ) (d : KeptEntry) → i < length xs
    → length (keeper_calls (map entry_of (take (i + 1) xs))) ≡ length (keeper_calls (map entry_of (take i xs))) +
    length (calls_at (entry_of (get_or xs i d)))
calls_more xs i d below =
    ap (λ es. length (keeper_calls es)) (map_more entry_of xs i d below)
    ∙ ap length (flat_map-append calls_at (map entry_of (take i xs)) (entry_of (get_or xs i d) ∷ []))
    ∙ length-append (keeper_calls (map entry_of (take i xs))) (flat_map calls_at (entry_of (get_or xs i d) ∷ []))
    ∙ ap (λ (cs : List KeeperCall). length (keeper_calls (map entry_of (take i xs))) + length cs)
    (append-nil (calls_at (entry_of (get_or xs i d))))

-- the calls of an actor that fail
pub failing_found : (c : Contents) (actor : ℕ) (found : List ℕ) → slice_get c.failing actor ≡ Some found →
    (setup_of c).failing actor ≡ found
failing_found c actor found is = (setup_goes_by c).failing actor ∙ get_or_from_slice_get c.failing actor found [] is

pub none_fails : (c : Contents) (actor : ℕ) → slice_get c.failing actor ≡ None → (setup_of c).failing actor ≡ []
none_fails c actor is = (setup_goes_by c).failing actor ∙ sym (unwrap_or-slice_get c.failing actor [])
    ∙ ap (λ (o : Option (List ℕ)). unwrap_or o []) is
