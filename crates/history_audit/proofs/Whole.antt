-- The setup of a scenario's own numbers, and the empty map.
use Rattle.std.proofs.Common.{◌≡◌, ℕ, suc, ◌+◌, ◌<◌, Bool, cond, List, [], length, take, get_or, filter, sym, ◌∙◌, ap}
use Rattle.std.proofs.Common.{subst, arith}
use Rattle.std.proofs.lemmas.List.Filters.{length-filter_more}
use Rattle.std.specs.Map.{lookup}
use Rattle.std.specs.List.{list_any}
use Rattle.quorum_sets.specs.Masters.{voters, has_master}
use Rattle.quorum_sets.proofs.MastersLemmas.{length-voters-suc}
use Rattle.protocol_rules.specs.Group.{Group}
use Rattle.history_rules.specs.Counts.{intruded_masters}
use Rattle.history_rules.specs.Sameness.{is_same_body}
use Rattle.scenario_file.specs.Reading.{Contents}
use Rattle.world_rules.specs.Scenarios.{setup_of, group_in}
use Rattle.world_rules.proofs.Fields.{setup_goes_by}
use Rattle.history_audit.specs.Counting.{HasMasters}
use Rattle.protocol_rules.specs.Keys.{same_key}
use Rattle.history_audit.specs.Said.{WordMap, key_of, lent, HasWords}

pub no_words : (kept : WordMap) → kept.entries ≡ [] → HasWords [] kept
no_words kept none actor b = ap (λ es. list_any (is_same_body b) (lent (lookup (same_key (key_of actor b)) es))) none

pub masters_of : (c : Contents) (n : ℕ) → n ≡ (group_in c).n → HasMasters n c.settings.intruded (setup_of c)
masters_of c n size = record {
  group = size ∙ sym (ap (λ (g : Group). g.n) (setup_goes_by c).group);
  masters_intruded = λ master. sym ((setup_goes_by c).intruded master);
}

pub intruded_of : (c : Contents) (n : ℕ) → n ≡ (group_in c).n →
    length (voters (has_master c.settings.intruded) n) ≡ intruded_masters (setup_of c)
unfolding setup_of
intruded_of c n size = ap (λ (m : ℕ). length (voters (has_master c.settings.intruded) m)) size

-- a master more, and a part more
pub intruded_more : (t : ℕ → Bool) (m count one : ℕ) → count ≡ length (voters t m) → one ≡ cond (t m) 1 0 →
    count + one ≡ length (voters t (m + 1))
intruded_more t m count one so_far here =
    let next : m + 1 ≡ suc m = omega arith in
    let more : length (voters t (suc m)) ≡ length (voters t m) + cond (t m) 1 0 = length-voters-suc t m in
    subst (λ (n : ℕ). count + one ≡ length (voters t n)) (sym next) (omega arith)

pub forged_counted : {X : Type 0} (p : X → Bool) (xs : List X) (i : ℕ) (x : X) (count one : ℕ) →
    i < length xs → x ≡ get_or xs i x
    → count ≡ length (filter p (take i xs)) → one ≡ cond (p x) 1 0 → count + one ≡ length (filter p (take (i + 1) xs))
forged_counted {X} p xs i x count one below is so_far here =
    let more : length (filter p (take (i + 1) xs)) ≡ length (filter p (take i xs)) + cond (p (get_or xs i x)) 1 0 =
    length-filter_more p xs i x below in
    ap (λ (n : ℕ). n + one) so_far
    ∙ ap (λ (n : ℕ). length (filter p (take i xs)) + n) (here ∙ ap (λ (z : X). cond (p z) 1 0) is)
    ∙ sym more
