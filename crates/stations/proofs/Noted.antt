-- The notes as they are put together, and what waits with them.
use Rattle.std.proofs.Common.{◌≡◌, ℕ, ◌<◌, ◌≤◌, Bool, true, false, nat_lt, List, [], ◌++◌, length, codes, append_assoc, refl, sym}
use Rattle.std.proofs.Common.{◌∙◌, ap, arith}
use Rattle.std.specs.Prelude.{decimal}
use Rattle.std.proofs.lemmas.Bool.{ltb-true}
use Rattle.scenario_file.specs.declared.actors.Cast.{Cast}
use Rattle.scenario_file.specs.Reading.{Contents}
use Rattle.history_rules.specs.Events.{Entry}
use Rattle.station_files.specs.Batch.{Waiting}
use Rattle.station_lives.specs.Saying.{note_line}
use Rattle.station_rules.specs.Notes.{Reached, begun_note, notes_since}
use Rattle.station_rules.proofs.Noting.{notes_said}
use Rattle.world_history.specs.Benches.{bench_in}
use Rattle.world_history.specs.State.{BenchState, leaves_left}
use Rattle.stations.specs.Telling.{Tells}

-- four texts, one behind another
pub four_put : (old first second third last v e w n : List ℕ) → first ≡ old ++ v → second ≡ first ++ e →
    third ≡ second ++ w → last ≡ third ++ n → last ≡ old ++ (((v ++ e) ++ w) ++ n)
four_put old first second third last v e w n one two three four =
    four
    ∙ ap (λ (bs : List ℕ). bs ++ n)
    (three ∙ ap (λ (bs : List ℕ). bs ++ w)
    (two ∙ ap (λ (bs : List ℕ). bs ++ e) one ∙ append_assoc old v e)
    ∙ append_assoc old (v ++ e) w)
    ∙ append_assoc old ((v ++ e) ++ w) n

-- what an actor came to is told in notes alone
pub tells_notes : (c : Contents) (cast made : Cast) (r : Reached) (b shown : BenchState) (old new : Waiting) →
    made ≡ cast → shown ≡ b → new ≡ record old { out = old.out ++ notes_since made r shown } →
    Tells c (notes_since cast r b) old new
tells_notes c cast made r b shown old new same its is = record {
  lines = ap (λ (w : Waiting). w.lines) is;
  out = ap (λ (w : Waiting). w.out) is ∙ (λ i. old.out ++ notes_since (same i) r (its i));
  notes = λ quiet. (sym (ap (λ (w : Waiting). w.has_words) is) ∙ quiet, notes_said c [] cast r b);
}

-- how far the actor is
pub begun_told : (c : Contents) (actor : ℕ) (list : List Entry) (entries left : ℕ) (old new : Waiting) →
    entries ≡ length list → left ≡ leaves_left (bench_in c list actor) →
    new ≡ record old {
      out = old.out ++ note_line (codes "begun " ++ decimal entries ++ codes " left " ++ decimal left);
    } → new ≡ record old { out = old.out ++ begun_note c actor list }
begun_told c actor list entries left old new many keys is =
    is ∙ (λ i. record old {
      out = old.out ++ note_line (codes "begun " ++ decimal (many i) ++ codes " left " ++ decimal (keys i));
    })

-- whether there is an entry
pub some_entry : (n : ℕ) (b : Bool) → b ≡ nat_lt 0 n → b ≡ true → 0 < n
some_entry n b is begun = ltb-true 0 n (sym is ∙ begun)

pub no_entry : (n : ℕ) (b : Bool) → b ≡ nat_lt 0 n → b ≡ false → n ≡ 0
no_entry n b is new =
    let none : nat_lt 0 n ≡ false = sym is ∙ new in
    let low : n ≤ 0 = grind (arith, none) in
    omega (arith, low)
