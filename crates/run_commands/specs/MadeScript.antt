-- The script of a made run, as the text of a file. (This project's own.)
use Rattle.std.specs.Prelude.{ℕ, zero, suc, ◌+◌, ◌*◌, ◌%◌, ◌^◌, List, [], ◌++◌, codes, decimal}

-- the next number of a sequence: a linear congruential generator, with the constants of Numerical Recipes
unfoldable pub next_draw : ℕ → ℕ
next_draw x = (1664525 * x + 1013904223) % (2 ^ 32)

-- the draw of this place in the sequence that a number begins; the number itself is at place 0
unfoldable pub draw : ℕ → ℕ → ℕ
draw number zero = number
draw number (suc place) = next_draw (draw number place)

-- the feeder's current changes and is read
unfoldable pub reading_text : ℕ → List ℕ
reading_text current = codes "field p0 input 0 " ++ decimal current ++ codes "\npoll p0\n"

-- the operator sets the breaker
unfoldable pub setting_text : ℕ → List ℕ
setting_text position = codes "command s0 set 1 " ++ decimal position ++ codes "\n"

-- one round: both happen, and the masters order them
unfoldable pub round_text : ℕ → ℕ → List ℕ
round_text current position =
    reading_text current ++ setting_text position ++ codes "flow 4\ntick masters\nflow 1\ntick m0\nflow 5\n"

-- so many rounds, each with the next two draws
unfoldable pub rounds_text : ℕ → ℕ → List ℕ
rounds_text number zero = []
rounds_text number (suc rounds) =
    rounds_text number rounds ++ round_text (draw number (2 * rounds + 1) % 2001) (draw number (2 * rounds + 2) % 2)

-- the whole script
unfoldable pub made_script : ℕ → List ℕ
made_script number = rounds_text number 30
