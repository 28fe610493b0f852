-- The lines of an account.
use Rattle.std.specs.Prelude.{ℕ, Bool, cond, List, [], ◌∷◌, ◌++◌, codes, decimal, ◌==◌}
use Rattle.account.specs.declared.account.Account.{Account}

-- bracket and byte 10
abbrev pub ending : List ℕ
ending = codes ")" ++ (10 ∷ [])

-- two numbers with a space between them
abbrev pub two_numbers : ℕ → ℕ → List ℕ
two_numbers m n = decimal m ++ (codes " " ++ decimal n)

abbrev pub answer : Bool → List ℕ
answer b = cond b (codes "yes") (codes "no")

-- `(nodes N)`, `(arcs M)`
abbrev pub size_lines : Account → List ℕ
size_lines a = codes "(nodes " ++ (decimal a.nodes ++ (ending ++ (codes "(arcs " ++ (decimal a.arcs ++ ending))))

-- `(offered C N)`, `(wanted C N)`: chests, and how many nodes
abbrev pub chest_lines : Account → List ℕ
chest_lines a = codes "(offered " ++ (two_numbers a.offered a.offering ++ (ending ++ (codes "(wanted " ++ (two_numbers a.wanted a.wanting ++ ending))))

-- `(balanced yes)` or `(balanced no)`
abbrev pub balance_line : Account → List ℕ
balance_line a = codes "(balanced " ++ (answer (a.offered == a.wanted) ++ ending)

-- `(reach C D)`
abbrev pub reach_line : Account → List ℕ
reach_line a = codes "(reach " ++ (two_numbers a.reach.0 a.reach.1 ++ ending)

abbrev pub account_lines : Account → List ℕ
account_lines a = size_lines a ++ (chest_lines a ++ (balance_line a ++ reach_line a))
