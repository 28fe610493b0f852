-- Numbers of the text.
use Rattle.std.specs.Prelude.{ℕ, ◌+◌, ◌-◌, ◌*◌, ◌<◌, Bool, cond, ◌&&◌, ◌||◌, List, [], ◌∷◌, length, take, drop, ℤ, pos, neg_ℤ, Ok, Err, Result, ◌==◌, int_le, nat_lt, slice_index}
use Rattle.std.specs.Char.{is_ascii_digit}
use Rattle.std.specs.Int.{IsInRange}
use Rattle.std.specs.List.{prefix_len}
use Rattle.network.specs.declared.refusal.Refusal.{Refusal}
use Rattle.network.specs.declared.refusal.Refusal.TheVariants.{Form, Number}

-- the most digits that a number may have
abbrev pub max_digits : ℕ
max_digits = 7

-- the number that the digits write after those of n
abbrev pub continued : ℕ → List ℕ → ℕ
continued n [] = n
continued n (d ∷ ds) = continued (n * 10 + (d - 48)) ds

-- how many digits stand first
abbrev pub run : List ℕ → ℕ
run bs = prefix_len is_ascii_digit bs

abbrev pub AllDigits : List ℕ → Type 0
AllDigits ds = (i : ℕ) → i < length ds → IsInRange 48 57 (slice_index ds i)

-- a minus stands first
abbrev pub minus : List ℕ → Bool
minus bs = slice_index bs 0 == 45

abbrev pub unsigned : List ℕ → List ℕ
unsigned bs = drop (cond (minus bs) 1 0) bs

-- the digits of the number that stands first, and how many bytes the number takes
abbrev pub figures : List ℕ → List ℕ
figures bs = take (run (unsigned bs)) (unsigned bs)

abbrev pub width : List ℕ → ℕ
width bs = cond (minus bs) 1 0 + run (unsigned bs)

abbrev pub valued : Bool → ℕ → ℤ
valued negative n = cond negative (neg_ℤ (pos n)) (pos n)

-- a zero before a digit, or minus zero
abbrev pub padded : Bool → List ℕ → Bool
padded negative ds = slice_index ds 0 == 48 && (negative || nat_lt 1 (length ds))

abbrev pub ranged : ℤ → ℤ → ℕ → ℤ → Result ℤ Refusal
ranged low high place v = cond (int_le low v && int_le v high) (Ok v) (Err (Number place))

-- what a number comes to: its sign and digits, its range, the place of its first byte
abbrev pub judged : Bool → List ℕ → ℤ → ℤ → ℕ → Result ℤ Refusal
judged negative ds low high place =
    cond (length ds == 0) (Err (Form (place + cond negative 1 0)))
    (cond (padded negative ds) (Err (Form place))
    (cond (nat_lt max_digits (length ds)) (Err (Number place))
    (ranged low high place (valued negative (continued 0 ds)))))

-- what the number that stands first comes to
abbrev pub number : ℤ → ℤ → List ℕ → ℕ → Result ℤ Refusal
number low high bs place = judged (minus bs) (figures bs) low high place
