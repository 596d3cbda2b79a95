-- What a pool is made with where nothing else is said.
use Rattle.std.specs.Prelude.{◌≡◌, ℕ, ◌/◌, ◌^◌}
use Rattle.bp_replacer.specs.declared.settings.Settings.{Settings}

-- K 2, a correlated period of an eighth of so many frames, and the longest retained period
abbrev pub AreForFrames : ℕ → Settings → Type 0
AreForFrames frames s = (s.k ≡ 2) × (s.correlated ≡ frames / 8) × (s.retained ≡ 2 ^ 62)
