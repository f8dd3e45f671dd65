use Rattle.std.proofs.Common.{arith, ◌≡◌, [], map, ◌∷◌, ◌++◌, inl}
use Rattle.std.specs.Prelude.{string_bytes}
use Rattle.std.proofs.lemmas.Grind.{common_steps}
use Rattle.outside.proofs.Failures.{failures-rise}
use Rattle.outside.proofs.memory_files.MemoryFilesFiles.load.Goals as goal

-- the name that was noted counts once more
pub returns-in_ok-map_err-in-None-clause-failed : goal.returns-in_ok-map_err-in-None-clause-failed
returns-in_ok-map_err-in-None-clause-failed c =
    let noted : map string_bytes c.push.new.self.items ≡ c.args.self.now.failed ++ c.args.name.now ∷ [] =
    grind (arith, common_steps) in
    λ _. inl (failures-rise _ _ c.args.name.now noted)
