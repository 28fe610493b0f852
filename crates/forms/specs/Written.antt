-- What bytes of a form look like, and where bytes depart from it.
use Rattle.std.specs.Prelude.{◌≡◌, ℕ, ◌+◌, ◌<◌, ◌≤◌, Bool, true, false, cond, not, ◌&&◌, ◌⊎◌, List, [], ◌∷◌, ◌++◌, length, ℤ, pos, negsuc, ◌≤ℤ◌, Ok, Err, ◌≢◌, int_le, slice_index}
use Rattle.std.specs.Char.{is_ascii_digit}
use Rattle.std.specs.Fmt.{signed_decimal}
use Rattle.network.specs.Refusals.{SaysAt}
use Rattle.network.specs.declared.refusal.Refusal.{Refusal}
use Rattle.lines.specs.Number.{max_digits, continued, AllDigits, minus, valued}
use Rattle.forms.specs.Scan.{Item, byte, num, scan}

-- the form with these numbers written in their places
abbrev pub written : List Item → List ℤ → List ℕ
written [] vs = []
written (byte w ∷ items) vs = w ∷ written items vs
written (num low high ∷ items) [] = []
written (num low high ∷ items) (v ∷ vs) = signed_decimal v ++ written items vs

-- a number for each place, each within its bounds
abbrev pub Within : List Item → List ℤ → Type 0
Within [] [] = Unit {0}
Within [] (v ∷ vs) = ⊥
Within (byte w ∷ items) vs = Within items vs
Within (num low high ∷ items) [] = ⊥
Within (num low high ∷ items) (v ∷ vs) = (low ≤ℤ v) × (v ≤ℤ high) × Within items vs

-- no digit stands first
abbrev pub Stops : List ℕ → Type 0
Stops bs = is_ascii_digit (slice_index bs 0) ≡ false

abbrev pub sign : Bool → List ℕ
sign negative = cond negative (45 ∷ []) []

-- a sign or none, digits as far as they go, and the rest
pub record Numeral (bs : List ℕ) (negative : Bool) (ds rest : List ℕ) : Type 0 where
  pub first : minus bs ≡ negative
  pub parts : bs ≡ sign negative ++ (ds ++ rest)
  pub digits : AllDigits ds
  pub whole : Stops rest

-- a zero before a digit, or minus zero
abbrev pub Padded : Bool → List ℕ → Type 0
Padded negative ds = (slice_index ds 0 ≡ 48) × ((negative ≡ true) ⊎ (1 < length ds))

-- what is wrong with a number, and where
pub data NumberFault (low high : ℤ) (negative : Bool) (ds : List ℕ) (place : ℕ) (e : Refusal) : Type 0 where
  no_digit : length ds ≡ 0 → SaysAt e 10 (place + length (sign negative)) → NumberFault low high negative ds place e
  padding : 0 < length ds → Padded negative ds → SaysAt e 10 place → NumberFault low high negative ds place e
  many_digits : (Padded negative ds → ⊥) → max_digits < length ds → SaysAt e 11 place → NumberFault low high negative ds place e
  out_of_range : 0 < length ds → (Padded negative ds → ⊥) → length ds ≤ max_digits → ((low ≤ℤ valued negative (continued 0 ds)) × (valued negative (continued 0 ds) ≤ℤ high) → ⊥) → SaysAt e 11 place → NumberFault low high negative ds place e

-- the bytes are written as the form says up to some place; the item due there, or the end, is the first that does not fit, and the fault is there
abbrev pub Misfit : List Item → List ℕ → ℕ → Refusal → Type 0
Misfit [] bs place e = (0 < length bs) × SaysAt e 10 place
Misfit (byte w ∷ items) bs place e =
    (((rest : List ℕ) → bs ≢ w ∷ rest) × SaysAt e 10 place)
    ⊎ ((rest : List ℕ) × (bs ≡ w ∷ rest) × Misfit items rest (place + 1) e)
Misfit (num low high ∷ items) bs place e =
    ((negative : Bool) × (ds : List ℕ) × (rest : List ℕ) × Numeral bs negative ds rest × NumberFault low high negative ds place e)
    ⊎ ((v : ℤ) × (rest : List ℕ) × (bs ≡ signed_decimal v ++ rest) × Stops rest × (low ≤ℤ v) × (v ≤ℤ high) × Misfit items rest (place + length (signed_decimal v)) e)

-- no digit comes right after a number, and bounds have at most seven digits
abbrev pub ends : List Item → Bool
ends [] = true
ends (byte w ∷ items) = not (is_ascii_digit w)
ends (num low high ∷ items) = false

abbrev pub plain : List Item → Bool
plain [] = true
plain (byte w ∷ items) = plain items
plain (num low high ∷ items) = ends items && plain items && int_le (negsuc 9999998) low && int_le high (pos 9999999)

-- a scan gives numbers exactly where the bytes are the form with these numbers written in their places, each within its bounds
abbrev pub Accepts : Type 0
Accepts = (items : List Item) → plain items ≡ true → (bs : List ℕ) (place : ℕ) (vs : List ℤ)
    → (scan items bs place ≡ Ok vs → (bs ≡ written items vs) × Within items vs) × (bs ≡ written items vs → Within items vs → scan items bs place ≡ Ok vs)

-- a scan's fault is at the first item that does not fit
abbrev pub Points : Type 0
Points = (items : List Item) (bs : List ℕ) (place : ℕ) (e : Refusal) → scan items bs place ≡ Err e → Misfit items bs place e
