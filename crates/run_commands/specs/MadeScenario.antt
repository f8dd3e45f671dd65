-- The scenario of a made run, as the text of a file. (This project's own.)
use Rattle.std.specs.Prelude.{ℕ, List, ◌++◌, codes, replicate}
use Rattle.hex.specs.Hex.{encode_lower}
use Rattle.wire_parts.specs.Fields.{u32_bytes}

-- two devices: one with a breaker's coil and a feeder's current, one with two coils
abbrev pub proxies : List ℕ
proxies = codes "[[proxy]]\ncoils = 2\ndiscrete = 0\nholding = 1\ninput = 1\n[[proxy]]\ncoils = 2\ndiscrete = 0\nholding = 0\ninput = 0\n"

-- the current, the breaker, and a pump whose place its device doesn't have
abbrev pub points : List ℕ
points = codes "[[point]]\nname = \"feeder_amps\"\nproxy = 0\narea = \"input\"\nplace = 0\nscale = 10\nlow = 0\nhigh = 20000\n[[point]]\nname = \"breaker\"\nproxy = 0\narea = \"coil\"\nplace = 0\nlow = 0\nhigh = 1\n[[point]]\nname = \"pump\"\nproxy = 1\narea = \"coil\"\nplace = 9\nlow = 0\nhigh = 1\n"

-- an alarm while the current is high, and that the breaker isn't closed meanwhile
abbrev pub rules : List ℕ
rules = codes "[[alarm]]\nname = \"overload\"\npoint = \"feeder_amps\"\nkind = \"high\"\nlimit = 9000\nband = 500\n[[interlock]]\nname = \"no_close\"\npoint = \"breaker\"\nvalue = 1\ndeny = \"alarm overload\"\n"

-- the seed of all keys: 28 zero bytes and the number
unfoldable pub made_seed : ℕ → List ℕ
made_seed number = replicate 28 0 ++ u32_bytes number

-- four masters, this plant and one screen
unfoldable pub made_scenario : ℕ → List ℕ
made_scenario number =
    codes "f = 1\nseed = \"" ++ encode_lower (made_seed number) ++ codes "\"\nscreens = 1\n"
    ++ proxies ++ points ++ rules
