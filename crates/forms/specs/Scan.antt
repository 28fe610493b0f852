-- Forms as lists of items, and what bytes come to under one.
use Rattle.std.specs.Prelude.{◌≡◌, ℕ, ◌+◌, cond, List, [], ◌∷◌, ◌++◌, drop, ℤ, pos, Ok, Err, Result, ◌==◌}
use Rattle.network.specs.declared.refusal.Refusal.{Refusal}
use Rattle.network.specs.declared.refusal.Refusal.TheVariants.{Form}
use Rattle.lines.specs.Number.{number, width}

-- an item of a form: this byte, or a number from one bound to another
pub data Item : Type 0 where
  byte : ℕ → Item
  num : ℤ → ℤ → Item

abbrev pub push : ℤ → Result (List ℤ) Refusal → Result (List ℤ) Refusal
push v (Ok vs) = Ok (v ∷ vs)
push v (Err e) = Err e

abbrev pub onward : Result ℤ Refusal → Result (List ℤ) Refusal → Result (List ℤ) Refusal
onward (Ok v) r = push v r
onward (Err e) r = Err e

-- the numbers of bytes that have the form, or their leftmost fault; `place` is that of the first byte
abbrev pub scan : List Item → List ℕ → ℕ → Result (List ℤ) Refusal
scan [] [] place = Ok []
scan [] (b ∷ bs) place = Err (Form place)
scan (byte w ∷ items) [] place = Err (Form place)
scan (byte w ∷ items) (b ∷ bs) place = cond (b == w) (scan items bs (place + 1)) (Err (Form place))
scan (num low high ∷ items) bs place = onward (number low high bs place) (scan items (drop (width bs) bs) (place + width bs))

-- the numbers `vs` come before what the rest of a scan comes to
abbrev pub pushes : List ℤ → Result (List ℤ) Refusal → Result (List ℤ) Refusal
pushes [] r = r
pushes (v ∷ vs) r = push v (pushes vs r)

-- what a scan comes to that has read so far as `given`, where the rest comes to `r`
abbrev pub onto : Result (List ℤ) Refusal → Result (List ℤ) Refusal → Result (List ℤ) Refusal
onto (Ok vs) r = pushes vs r
onto (Err e) r = Err e

-- reading `items` from `bs` at `place` gave these numbers or this fault, and left `after` at `to`, whatever items follow
pub record Reads (items : List Item) (bs : List ℕ) (place : ℕ) (given : Result (List ℤ) Refusal) (after : List ℕ) (to : ℕ) : Type 0 where
  pub is : (more : List Item) → scan (items ++ more) bs place ≡ onto given (scan more after to)

-- the bytes have the form and give these numbers, or have this fault
pub record Scanned (items : List Item) (bs : List ℕ) (place : ℕ) (given : Result (List ℤ) Refusal) : Type 0 where
  pub is : scan items bs place ≡ given

-- an answer with its numbers in a list
abbrev pub by : {X : Type 0} → (X → List ℤ) → Result X Refusal → Result (List ℤ) Refusal
by lists (Ok x) = Ok (lists x)
by lists (Err e) = Err e

abbrev pub none : Unit {0} → List ℤ
none u = []

abbrev pub one : ℤ → List ℤ
one v = v ∷ []

abbrev pub both : (ℤ × ℤ) → List ℤ
both v = v.0 ∷ v.1 ∷ []

-- the same of numbers from 0 on
abbrev pub natural : ℕ → List ℤ
natural n = pos n ∷ []

abbrev pub naturals : (ℕ × ℕ) → List ℤ
naturals v = pos v.0 ∷ pos v.1 ∷ []
