-- The longest of the lists that benches show, and what the benches of a history show whatever words intruded masters
-- signed outside it.
use Rattle.std.proofs.Common.{◌≡◌, ℕ, ◌+◌, ◌<◌, ◌≤◌, Bool, true, false, cond, not, ◌&&◌, List, [], ◌∷◌, drop, length}
use Rattle.std.proofs.Common.{get_or, map, nat_lt, refl, sym, ◌∙◌, ap, Option, Some, None, Result, Ok, Err, slice_get}
use Rattle.std.specs.List.{list_all}
use Rattle.std.proofs.lemmas.List.{drop_all}
use Rattle.plain_lists.proofs.Lists.{all_at, left_more}
use Rattle.quorum_sets.specs.Masters.{numbers_below}
use Rattle.message_types.specs.declared.updates.Update.{Update}
use Rattle.scenario_file.specs.Reading.{Contents}
use Rattle.history_rules.specs.Events.{Entry}
use Rattle.world_rules.specs.Scenarios.{actors_in}
use Rattle.world_history.specs.State.{BenchState, executions_shown}
use Rattle.world_history.specs.Benches.{AreBenches, bench_in, benches_of, unsigned}
use Rattle.point_table.specs.declared.point.Point.{Point}
use Rattle.history_picture.specs.declared.fault.PictureRefusal.TheVariants as fault
use Rattle.history_picture.specs.Pictures.{furthest_from, furthest_in, plot_in, plotted}
use Rattle.axis_pictures.specs.Plots.{plot_text}

abbrev pub works : BenchState → Bool
works b = not b.is_spent

pub works_at : (benches : List BenchState) (i : ℕ) (b : BenchState) → list_all works benches ≡ true →
    i < length benches → b ≡ get_or benches i b → b.is_spent ≡ false
works_at benches i b all low is = by b.is_spent (all_at works benches i b all low is)
  where
    by : (s : Bool) → not s ≡ true → s ≡ false
    by false e = refl
    by true e = sym e

-- the further of two lists
abbrev pub further : List Update → List Update → List Update
further best us = cond (nat_lt (length best) (length us)) us best

pub furthest_more : (benches : List BenchState) (i : ℕ) (b : BenchState) (best us new whole : List Update) →
    i < length benches → b ≡ get_or benches i b → us ≡ executions_shown b → new ≡ further best us
    → furthest_from best (map executions_shown (drop i benches)) ≡ whole
    → furthest_from new (map executions_shown (drop (i + 1) benches)) ≡ whole
furthest_more benches i b best us new whole low is shows put all =
    ap (λ (n : List Update). furthest_from n (map executions_shown (drop (i + 1) benches))) put
    ∙ ap (λ (z : List Update). furthest_from (further best z) (map executions_shown (drop (i + 1) benches))) shows
    ∙ ap (λ (bs : List BenchState). furthest_from best (map executions_shown bs)) (sym (left_more benches i b low is))
    ∙ all

pub furthest_is : (benches : List BenchState) (i : ℕ) (best whole : List Update) → length benches ≤ i →
    furthest_from best (map executions_shown (drop i benches)) ≡ whole → best ≡ whole
furthest_is benches i best whole past all =
    ap (λ (bs : List BenchState). furthest_from best (map executions_shown bs)) (sym (drop_all i benches past)) ∙ all

-- ---- The benches of a history.

same_shown : (benches : List BenchState) → map executions_shown benches ≡ map executions_shown (map unsigned benches)
same_shown [] = refl
same_shown (b ∷ benches) = ap (λ (uss : List (List Update)). executions_shown b ∷ uss) (same_shown benches)

pub shown_by : (c : Contents) (history : List Entry) (benches : List BenchState) → AreBenches c history benches →
    map executions_shown benches ≡ map executions_shown (benches_of c history)
shown_by c history benches are = same_shown benches ∙ ap (map executions_shown) are

same_works : (benches : List BenchState) → list_all works benches ≡ list_all works (map unsigned benches)
same_works [] = refl
same_works (b ∷ benches) = ap (λ (t : Bool). works b && t) (same_works benches)

all_work : (c : Contents) (history : List Entry) (actors : List ℕ) →
    list_all works (map (bench_in c history) actors) ≡ true
all_work c history [] = refl
all_work c history (a ∷ actors) = all_work c history actors

pub benches_work : (c : Contents) (history : List Entry) (benches : List BenchState) → AreBenches c history benches →
    list_all works benches ≡ true
benches_work c history benches are =
    same_works benches ∙ ap (list_all works) are ∙ all_work c history (numbers_below (actors_in c))

-- ---- Plots.

pub plot_is : (c : Contents) (history : List Entry) (number width : ℕ) (benches : List BenchState) (us : List Update)
    (p : Point) (text : List ℕ) → AreBenches c history benches → us ≡ furthest_from [] (map executions_shown benches)
    → slice_get c.plant.points number ≡ Some p
    → text ≡ plot_text (record { width = width; count = length us }) number p c.plant.alarms us
    → plot_in c history number width ≡ Ok text
unfolding plot_in furthest_in
plot_is c history number width benches us p text are is there drawn =
    let furthest : us ≡ furthest_from [] (map executions_shown (benches_of c history)) =
    is ∙ ap (furthest_from []) (shown_by c history benches are) in
    ap (plotted c number width (furthest_from [] (map executions_shown (benches_of c history)))) there
    ∙ ap (λ (vs : List Update). plotted c number width vs (Some p)) (sym furthest) ∙ ap Ok (sym drawn)

pub no_plot : (c : Contents) (history : List Entry) (number width : ℕ) → slice_get c.plant.points number ≡ None →
    plot_in c history number width ≡ Err fault.NoPoint
unfolding plot_in
no_plot c history number width none = ap (plotted c number width (furthest_in c history)) none
