-- The order of ranked pairs as a choice of two facts, and the laws of both orders one by one.
use Rattle.std.specs.Prelude.{◌≡◌, Bool, true, false, ◌&&◌, ◌||◌, T, ◌⊎◌, ℤ, int_le, int_lt}
use Rattle.std.proofs.Common.{inl, inr}
use Rattle.worths.specs.Kinds.{Pair, plus_pair, at_most_pair}
use Rattle.worths.specs.Laws.{plain_ordered, ranked_ordered}

pub either_way : (a b : ℤ) → T (int_le a b) ⊎ T (int_le b a)
either_way a b = plain_ordered.total a b

abbrev pub Under : Pair → Pair → Type 0
Under u v = T (int_lt u.0 v.0) ⊎ (T (int_le u.0 v.0) × T (int_le u.1 v.1))

pub opened : (a b c : Bool) → T (a || (b && c)) → T a ⊎ (T b × T c)
opened true b c t = inl tt
opened false true c t = inr (tt, t)
opened false false c t = absurd t

pub by_first : (a b : Bool) → T a → T (a || b)
by_first true b t = tt
by_first false b t = absurd t

pub by_second : (a b c : Bool) → T b → T c → T (a || (b && c))
by_second true b c t s = tt
by_second false true c t s = s
by_second false false c t s = absurd t

pub under : (u v : Pair) → T (at_most_pair u v) → Under u v
under u v t = opened (int_lt u.0 v.0) (int_le u.0 v.0) (int_le u.1 v.1) t

pub at_most : (u v : Pair) → Under u v → T (at_most_pair u v)
at_most u v (inl t) = by_first (int_lt u.0 v.0) (int_le u.0 v.0 && int_le u.1 v.1) t
at_most u v (inr t) = by_second (int_lt u.0 v.0) (int_le u.0 v.0) (int_le u.1 v.1) t.0 t.1

pub total_pair : (u v : Pair) → T (at_most_pair u v) ⊎ T (at_most_pair v u)
total_pair = ranked_ordered.total

pub trans_pair : (u v w : Pair) → T (at_most_pair u v) → T (at_most_pair v w) → T (at_most_pair u w)
trans_pair = ranked_ordered.trans

pub antisym_pair : (u v : Pair) → T (at_most_pair u v) → T (at_most_pair v u) → u ≡ v
antisym_pair = ranked_ordered.antisym

pub keeps_pair : (u v w : Pair) → T (at_most_pair u v) → T (at_most_pair (plus_pair u w) (plus_pair v w))
keeps_pair = ranked_ordered.keeps
