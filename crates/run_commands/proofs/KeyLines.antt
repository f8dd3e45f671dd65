-- The lines of one actor more.
use Rattle.std.proofs.Common.{◌≡◌, ◌∙◌, ◌+◌, ℕ, [], ◌++◌, ap, arith}
use Rattle.hash_signatures.specs.Signatures.{key_public}
use Rattle.actor_keys.specs.Keys.{key_of, public_keys}
use Rattle.actor_keys.proofs.KeyLists as lists
use Rattle.scenario_file.specs.Reading.{Contents, cast_of}
use Rattle.command_files.specs.Keys.{ring_from}
use Rattle.command_files.proofs.Rings.{no_line, one_line_more}
use Rattle.run_commands.specs.Keys.{key_line, key_lines}

pub no-lines : (c : Contents) → key_lines c 0 ≡ []
unfolding key_lines
no-lines c =
    let cast = cast_of c.settings c.plant in
    ap (ring_from cast 0) (lists.none_yet c.settings.seed c.settings.heights) ∙ no_line cast

pub one-more : (c : Contents) (actor : ℕ) → key_lines c (actor + 1) ≡ key_lines c actor ++ key_line c actor
unfolding key_lines key_line
one-more c actor =
    let cast = cast_of c.settings c.plant in
    let publics = public_keys c.settings.seed c.settings.heights actor in
    let public = key_public (key_of c.settings.seed c.settings.heights actor) in
    ap (ring_from cast 0) (lists.one_more c.settings.seed c.settings.heights actor)
    ∙ one_line_more cast 0 actor publics public
    (omega (arith, lists.one_each c.settings.seed c.settings.heights actor))
