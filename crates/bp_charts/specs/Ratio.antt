-- A part of a whole, with four decimals.
use Rattle.std.specs.Prelude.{ℕ, ◌*◌, ◌/◌, ◌%◌, ◌==◌, if◌then◌else◌, List, ◌++◌, codes}
use Rattle.std.specs.Fmt.{decimal}

-- how many ten-thousandths of the whole the part has, rounded down; none where there is no whole
abbrev pub ten_thousandths : ℕ → ℕ → ℕ
ten_thousandths part whole = if whole == 0 then 0 else part * 10000 / whole

-- so many ten-thousandths, as 0.8125
abbrev pub decimals_text : ℕ → List ℕ
decimals_text n =
    decimal (n / 10000) ++ codes "." ++ decimal (n / 1000 % 10) ++ decimal (n / 100 % 10)
    ++ decimal (n / 10 % 10) ++ decimal (n % 10)

-- the part of the whole that it is
abbrev pub ratio_text : ℕ → ℕ → List ℕ
ratio_text part whole = decimals_text (ten_thousandths part whole)
