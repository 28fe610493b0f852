-- The lines of a text.
use Rattle.std.specs.Prelude.{◌≡◌, ℕ, ◌+◌, ◌<◌, ◌≤◌, List, length, take, drop, ◌≢◌, slice_index, slice_index_or}

-- from one place up to another, the second left out, the text has no byte 10
abbrev pub NoEnd : List ℕ → ℕ → ℕ → Type 0
NoEnd text from to = (k : ℕ) → from ≤ k → k < to → slice_index text k ≢ 10

-- `form` is the part of the text from `place` up to the next byte 10
pub record LineAt (text : List ℕ) (place : ℕ) (form : List ℕ) : Type 0 where
  pub inside : place + length form < length text
  pub part : form ≡ take (length form) (drop place text)
  pub ends : slice_index_or text (place + length form) 0 ≡ 10
  pub whole : NoEnd text place (place + length form)

-- no byte 10 stands at `place` or after it
abbrev pub NoLine : List ℕ → ℕ → Type 0
NoLine text place = NoEnd text place (length text)

-- `at` is the place of the next byte 10 from `from` on, or the text's length where there is none
pub record NextEnd (text : List ℕ) (from at : ℕ) : Type 0 where
  pub bound : at ≤ length text
  pub none : NoEnd text from at
  pub here : at < length text → (from ≤ at) × (slice_index text at ≡ 10)
