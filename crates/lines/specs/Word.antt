-- The words that begin forms.
use Rattle.std.specs.Prelude.{ℕ, max, List, [], ◌∷◌, codes, nat_eq}
use Rattle.std.specs.List.{common_prefix_len}
use Rattle.lines.specs.declared.word.Word.{Word}
use Rattle.lines.specs.declared.word.Word.TheVariants.{Net, Stock, Arc}

-- bracket, word and space
abbrev pub spelt : Word → List ℕ
spelt Net = codes "(net "
spelt Stock = codes "(stock "
spelt Arc = codes "(arc "

-- how many bytes agree at the front with bracket, word and space
abbrev pub agree : Word → List ℕ → ℕ
agree w form = common_prefix_len nat_eq (spelt w) form

-- how many bytes agree at the front with one of the words: the next byte fits none of them
abbrev pub furthest : List Word → List ℕ → ℕ
furthest [] form = 0
furthest (w ∷ ws) form = max (agree w form) (furthest ws form)
