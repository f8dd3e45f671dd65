-- Whose a file is.
use Rattle.std.proofs.Common.{◌≡◌, ◌<◌, ℕ, List, [], ◌∷◌, Option, None, Some, Ok, length, refl, sym, ◌∙◌, ap, subst, arith}
use Rattle.scenario_file.specs.declared.actors.Cast.{Cast}
use Rattle.script_grammar.specs.declared.fault.LineRefusal.{LineRefusal}
use Rattle.script_grammar.specs.declared.fault.LineRefusal.TheVariants as line
use Rattle.script_grammar.specs.Faults as grammar
use Rattle.run_lines.specs.declared.entry_line.EntryLine.{EntryLine}
use Rattle.run_lines.specs.Reading.{entry_line_in}
use Rattle.run_lines.specs.Runs.{pieces}
use Rattle.run_lines.proofs.Cutting.{pieces_some}
use Rattle.kept_lines.specs.Reading.{Reads, Reading, Refuses, entry_part, fault_at}
use Rattle.joined_histories.specs.Files.{named_on, owner_by, there}

one_line : (cast : Cast) (line : List ℕ) (parts : List (List ℕ)) → 0 < length parts →
    owner_by cast (line ∷ parts) ≡ named_on (entry_line_in cast (entry_part line))
one_line cast line [] some = absurd (omega arith)
one_line cast line (next ∷ more) some = refl

-- by the first line
pub by_first : (cast : Cast) (bytes line after : List ℕ) → pieces bytes ≡ line ∷ pieces after →
    owner_by cast (pieces bytes) ≡ named_on (entry_line_in cast (entry_part line))
by_first cast bytes line after cut = ap (owner_by cast) cut ∙ one_line cast line (pieces after) (pieces_some after)

pub named_first : (cast : Cast) (bytes line after part : List ℕ) (l : EntryLine) → pieces bytes ≡ line ∷ pieces after →
    part ≡ entry_part line → entry_line_in cast part ≡ Ok l → owner_by cast (pieces bytes) ≡ there l.actor
named_first cast bytes line after part l cut is read =
    by_first cast bytes line after cut ∙ ap (λ p. named_on (entry_line_in cast p)) (sym is) ∙ ap named_on read

pub bad_first : (cast : Cast) (bytes line after part : List ℕ) (e : LineRefusal) → pieces bytes ≡ line ∷ pieces after →
    part ≡ entry_part line → grammar.Refuses e (entry_line_in cast part) →
    Refuses (fault_at 1 e) (owner_by cast (pieces bytes))
bad_first cast bytes l after part line.Want cut is told = tt
bad_first cast bytes l after part line.BadLine cut is told =
    by_first cast bytes l after cut ∙ ap (λ p. named_on (entry_line_in cast p)) (sym is) ∙ ap named_on told
bad_first cast bytes l after part line.NoActor cut is told =
    by_first cast bytes l after cut ∙ ap (λ p. named_on (entry_line_in cast p)) (sym is) ∙ ap named_on told

-- the answer is that of the definition
pub reads_there : (o : Option ℕ) (r right : Reading (Option ℕ)) → r ≡ there o → right ≡ there o → Reads r right
reads_there None r right is same = subst (λ x. Reads x right) (sym is) same
reads_there (Some actor) r right is same = subst (λ x. Reads x right) (sym is) same
