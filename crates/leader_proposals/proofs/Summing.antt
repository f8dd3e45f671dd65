-- The summary due, and what saying it changes.
use Rattle.std.proofs.Common.{◌≡◌, ℕ, zero, suc, ◌<◌, ◌≤◌, Bool, true, false, cond, ◌&&◌, not, List, [], ◌∷◌, ◌++◌}
use Rattle.std.proofs.Common.{map, length, take, get_or, refl, sym, ◌∙◌, ap, subst, arith, add-one}
use Rattle.std.proofs.lemmas.Bool.{false≢true}
use Rattle.std.specs.List.{filter_map}
use Rattle.std.specs.Str.{bytes_eq}
use Rattle.std.proofs.lemmas.List.{take_more}
use Rattle.std.proofs.lemmas.List.Elements.{filter_map-append}
use Rattle.message_types.specs.declared.signed.Signed.{Signed}
use Rattle.message_types.specs.declared.body.Body.{Body}
use Rattle.message_types.specs.declared.body.Body.TheVariants as body
use Rattle.quorum_sets.specs.Masters.{numbers_below}
use Rattle.protocol_rules.specs.Group.{Group}
use Rattle.protocol_rules.specs.Preorder.{vector}
use Rattle.protocol_rules.specs.Master.{summary_in, last_or, summaries_due}
use Rattle.leader_proposals.specs.Saying.{SummedUp, IsSummaryOf, TellsVector}
use Rattle.quorum_sets.proofs.Numbered.{map_more, map_start}

-- the first numbers are what f gives below n
pub leading-is : (numbers : List ℕ) (f : ℕ → ℕ) (n : ℕ) → n ≤ length numbers →
    ((j : ℕ) → j < n → get_or numbers j 0 ≡ f j) → take n numbers ≡ map f (numbers_below n)
leading-is numbers f zero le told = sym (map_start f)
leading-is numbers f (suc n) le told =
    let before : take n numbers ≡ map f (numbers_below n) =
    leading-is numbers f n (omega arith) (λ j lt. told j (omega arith)) in
    ap (λ k. take k numbers) (sym (add-one n)) ∙ take_more numbers n 0 (omega arith)
    ∙ ap (λ xs. xs ++ get_or numbers n 0 ∷ []) before
    ∙ ap (λ x. map f (numbers_below n) ++ x ∷ []) (told n (omega arith))
    ∙ sym (map_more f n) ∙ ap (λ k. map f (numbers_below k)) (add-one n)

pub last_or-push : (first : List ℕ) (xs : List (List ℕ)) (x : List ℕ) → last_or first (xs ++ x ∷ []) ≡ x
last_or-push first [] x = refl
last_or-push first (y ∷ xs) x = last_or-push y xs x

pub summary-none : (g : Group) (kept : SummedUp) (sizes_n : ℕ) (zeros : List ℕ) → g.n ≡ kept.masters →
    kept.masters ≡ sizes_n → kept.numbers ≡ take sizes_n zeros → sizes_n ≤ length zeros →
    ((j : ℕ) → j < sizes_n → get_or zeros j 0 ≡ 0) → IsSummaryOf g kept []
summary-none g kept n zeros masters sizes numbers few tells = record {
  masters = masters;
  last = numbers ∙ leading-is zeros (λ j. 0) n few tells ∙ ap (λ k. map (λ (j : ℕ). 0) (numbers_below k))
      (sym (masters ∙ sizes));
}

-- a summary is the last said
summary-said : (g : Group) (kept new : SummedUp) (said : List Body) → new.masters ≡ kept.masters →
    IsSummaryOf g kept said → IsSummaryOf g new (said ++ body.PoSummary record { numbers = new.numbers } ∷ [])
summary-said g kept new said masters is = record {
  masters = is.masters ∙ sym masters;
  last = sym (ap (last_or _)
      (filter_map-append summary_in said (body.PoSummary record { numbers = new.numbers } ∷ []))
      ∙ last_or-push _ (filter_map summary_in said) new.numbers);
}

pub summary-others : (g : Group) (kept : SummedUp) (said other : List Body) →
    filter_map summary_in other ≡ filter_map summary_in said → IsSummaryOf g kept said → IsSummaryOf g kept other
summary-others g kept said other same is = record { masters = is.masters; last = is.last ∙ ap (last_or _) (sym same) }

-- what is due, by whether it is a tick and the vector is the last said
due-by : (g : Group) (known : List (Signed Body)) (said : List Body) (at_tick same : Bool) (now last : List ℕ) →
    now ≡ map (vector g known) (numbers_below g.n) →
    last ≡ last_or (map (λ j. 0) (numbers_below g.n)) (filter_map summary_in said) → same ≡ bytes_eq now last →
    cond (at_tick && not same) (body.PoSummary record { numbers = now } ∷ []) [] ≡ summaries_due g known said at_tick
due-by g known said at_tick same now last now_is last_is same_is =
    ap (λ b. cond (at_tick && not b) (body.PoSummary record { numbers = now } ∷ []) [])
    (same_is ∙ ap (bytes_eq now) last_is)
    ∙ ap (λ xs. cond (at_tick
    && not (bytes_eq xs (last_or (map (λ j. 0) (numbers_below g.n)) (filter_map summary_in said))))
    (body.PoSummary record { numbers = xs } ∷ []) []) now_is

pub due-told : (g : Group) (known : List (Signed Body)) (said : List Body) (kept : SummedUp) (at_tick same : Bool)
    (n : ℕ) (numbers : List ℕ) → IsSummaryOf g kept said → TellsVector g known numbers →
    kept.masters ≡ n → n ≤ length numbers → same ≡ bytes_eq (take n numbers) kept.numbers →
    cond (at_tick && not same) (body.PoSummary record { numbers = take n numbers } ∷ [])
    [] ≡ summaries_due g known said at_tick
due-told g known said kept at_tick same n numbers is tells masters few same_is =
    let sizes : g.n ≡ n = is.masters ∙ masters in
    due-by g known said at_tick same (take n numbers) kept.numbers
    (leading-is numbers (vector g known) n few (λ j lt. tells j (omega arith))
    ∙ ap (λ k. map (vector g known) (numbers_below k)) (sym sizes)) is.last same_is

-- a summary of these numbers is the last said
pub said-numbers : (g : Group) (kept new : SummedUp) (said : List Body) (numbers : List ℕ) →
    new.masters ≡ kept.masters → numbers ≡ new.numbers → IsSummaryOf g kept said →
    IsSummaryOf g new (said ++ body.PoSummary record { numbers = numbers } ∷ [])
said-numbers g kept new said numbers masters same is =
    subst (λ (xs : List ℕ). IsSummaryOf g new (said ++ body.PoSummary record { numbers = xs } ∷ [])) (sym same)
    (summary-said g kept new said masters is)

pub none-untick : (g : Group) (known : List (Signed Body)) (said : List Body) (at_tick : Bool) → at_tick ≡ false →
    [] ≡ summaries_due g known said at_tick
none-untick g known said true tick = absurd (false≢true (sym tick))
none-untick g known said false tick = refl

pub none-due : (at_tick same : Bool) (summary : List Body) (due : List Body) → same ≡ true →
    cond (at_tick && not same) summary [] ≡ due → [] ≡ due
none-due false same summary due is e = e
none-due true true summary due is e = e
none-due true false summary due is e = absurd (false≢true is)

pub some-due : (at_tick same : Bool) (summary : List Body) (due : List Body) → at_tick ≡ true → same ≡ false →
    cond (at_tick && not same) summary [] ≡ due → summary ≡ due
some-due at_tick same summary due tick differs e =
    sym (ap (λ b. cond (b && not same) summary []) tick ∙ ap (λ b. cond (not b) summary []) differs) ∙ e
