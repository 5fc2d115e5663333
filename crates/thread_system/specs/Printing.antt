use Rattle.std.specs.Prelude.{ℕ, ◌-◌, ◌^◌, nat_lt, if◌then◌else◌, List, [], ◌∷◌, ◌++◌, decimal}

-- The decimal digits of a word as a signed number, behind other bytes where it isn't negative, else behind a minus sign.
abbrev pub signed_behind : List ℕ → ℕ → List ℕ
signed_behind lead word = if nat_lt word (2 ^ 63) then lead ++ decimal word else 45 ∷ decimal (2 ^ 64 - word)

-- The decimal text of a word as a signed number.
abbrev pub signed_text : ℕ → List ℕ
signed_text word = signed_behind [] word

-- What Print writes for a word as a signed number: a space where it isn't negative, else a minus sign, and its decimal
-- digits.
abbrev pub signed_item : ℕ → List ℕ
signed_item word = signed_behind (32 ∷ []) word
