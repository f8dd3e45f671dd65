-- What files tell, whatever their order: the list that stands under an actor is the one that its file tells. (This project's own.)
use Rattle.std.specs.Prelude.{◌≡◌, ℕ, List, [], ◌∷◌, ◌++◌, Some, Ok}
use Rattle.plain_lists.specs.Lists.{IsIn}
use Rattle.scenario_file.specs.Reading.{Contents}
use Rattle.joint_lists.specs.Joint.{kept_by}
use Rattle.kept_lines.specs.Reading.{kept_in}
use Rattle.joined_histories.specs.Files.{Given, files_in, owner_in}

-- the file's first line names the actor
abbrev pub IsFileOf : Contents → ℕ → List ℕ → Type 0
IsFileOf c actor bytes = owner_in c bytes ≡ Ok (Some actor)

-- Each file's list stands under the actor that its first line names, no two files are of one actor, and no list stands under
-- an actor that no file is of.
pub record AreTold (c : Contents) (files : List (List ℕ)) (given : Given) : Type 0 where
  pub each : (actor : ℕ) (bytes : List ℕ) → IsIn bytes files → IsFileOf c actor bytes →
      kept_in c actor bytes ≡ Ok (kept_by given.lists actor)
  pub once : (actor : ℕ) (before between after : List (List ℕ)) (one another : List ℕ) →
      files ≡ before ++ one ∷ (between ++ another ∷ after) → IsFileOf c actor one → IsFileOf c actor another → ⊥
  pub only : (actor : ℕ) → ((bytes : List ℕ) → IsIn bytes files → IsFileOf c actor bytes → ⊥) →
      kept_by given.lists actor ≡ []
