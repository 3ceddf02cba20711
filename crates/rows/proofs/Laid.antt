-- Request A5: where the numbers of any row stand, whatever bytes it is given. Each read takes the bytes behind those taken, so that no two
-- numbers share a byte, and none has the second byte or a condition byte.
-- Assumes nothing.
use Prim.Native.Nat.{ℕ, ◌+◌, ◌≤◌, ◌<◌}
use mathlib.Core.Path.{◌≡◌, refl}
use mathlib.Core.List.{List, [], ◌∷◌}
use native.Mathlib.Omega.{arith}
use lib.Dec.{eqb}
use Rattle.laws.specs.Choice.{pick}
use Rattle.laws.proofs.Choice.{pick_holds}
use Rattle.record.specs.declared.Part.{Part}
use Rattle.record.specs.declared.Parts.{Parts}
use Rattle.record.specs.declared.fields.Field.{Field}
use Rattle.record.specs.declared.fields.Field.TheVariants.{Nowhere as nowhere, Wide as wide, Short as short, Early as early}
use Rattle.record.specs.Parts.{part, no_part, no_parts, part_of, Inside, Within}
use Rattle.rows.specs.Row.{disp, imm, imm20, Read, num, cond, stop, Row}
use Rattle.rows.specs.Run.{disp_at, imm_at}
use Rattle.rows.specs.Spans.{Source, read, twenty, Spans, follow, spans_of, disp_next, imm_next, cond_next, part_in, parts_in}
use Rattle.rows.specs.Parts.{Laid}

-- a part of the first n bytes, but for the first two
record In (n : ℕ) (p : Part) : Type 0 where
  inside : p.offset + p.width ≤ n
  behind : (i : ℕ) → Within p i → 2 ≤ i

abbrev Apart : Part → Part → Type 0
Apart p q = (i : ℕ) → Within p i → Within q i → ⊥

-- the three parts one by one, two bytes at least being taken
pub record Each (n : ℕ) (p : Parts) : Type 0 where
  code : 2 ≤ n
  wide : In n p.imm_wide
  short : In n p.dispabs
  early : In n p.first
  wide_short : Apart p.imm_wide p.dispabs
  wide_early : Apart p.imm_wide p.first
  short_early : Apart p.dispabs p.first

pub none_within : (i : ℕ) → Within no_part i → ⊥
none_within i w = omega (arith, w.1)

pub all : (n : ℕ) (p : Parts) → Each n p → Laid n p
all n p h = record { inside = inside; behind = behind; apart = apart }
  where
    inside : Inside n p
    inside nowhere = omega arith
    inside wide = h.wide.inside
    inside short = h.short.inside
    inside early = h.early.inside

    behind : (f : Field) (i : ℕ) → Within (part_of f p) i → 2 ≤ i
    behind nowhere i w = absurd (none_within i w)
    behind wide i w = h.wide.behind i w
    behind short i w = h.short.behind i w
    behind early i w = h.early.behind i w

    apart : (f g : Field) (i : ℕ) → Within (part_of f p) i → Within (part_of g p) i → f ≡ g
    apart nowhere g i w v = absurd (none_within i w)
    apart wide nowhere i w v = absurd (none_within i v)
    apart wide wide i w v = refl
    apart wide short i w v = absurd (h.wide_short i w v)
    apart wide early i w v = absurd (h.wide_early i w v)
    apart short nowhere i w v = absurd (none_within i v)
    apart short wide i w v = absurd (h.wide_short i v w)
    apart short short i w v = refl
    apart short early i w v = absurd (h.short_early i w v)
    apart early nowhere i w v = absurd (none_within i v)
    apart early wide i w v = absurd (h.wide_early i v w)
    apart early short i w v = absurd (h.short_early i v w)
    apart early early i w v = refl

-- what is read next stands behind all that was read
more : (n w : ℕ) (p : Part) → In n p → In (n + w) p
more n w p h = record { inside = omega (arith, h.inside); behind = h.behind }

next : (n w : ℕ) → 2 ≤ n → In (n + w) (part n w)
next n w l = record { inside = omega arith; behind = λ i v. omega (arith, v.0) }

later : (n w : ℕ) (p : Part) → In n p → Apart (part n w) p
later n w p h i v u = omega (arith, v.0, u.1, h.inside)

disp_next_lem : (n w : ℕ) (p : Parts) → Each n p → Each (n + w) (disp_at n w p)
disp_next_lem n w p h = record {
  code = omega (arith, h.code);
  wide = more n w _ h.wide;
  short = next n w h.code;
  early = more n w _ h.short;
  wide_short = λ i u v. later n w _ h.wide i v u;
  wide_early = h.wide_short;
  short_early = later n w _ h.short;
}

pub imm_next_lem : (n w : ℕ) (p : Parts) → Each n p → Each (n + w) (imm_at n w p)
imm_next_lem n w p h = record {
  code = omega (arith, h.code);
  wide = next n w h.code;
  short = more n w _ h.short;
  early = more n w _ h.early;
  wide_short = later n w _ h.short;
  wide_early = later n w _ h.early;
  short_early = h.short_early;
}

pub cond_next_lem : (n : ℕ) (p : Parts) → Each n p → Each (n + 1) p
cond_next_lem n p h = record {
  code = omega (arith, h.code);
  wide = more n 1 _ h.wide;
  short = more n 1 _ h.short;
  early = more n 1 _ h.early;
  wide_short = h.wide_short;
  wide_early = h.wide_early;
  short_early = h.short_early;
}

-- of the spans so far
abbrev pub Standing : Spans → Type 0
Standing z = Each z.length (parts_in z)

pub after_disp : (n : ℕ) (z : Spans) → Standing z → Standing (pick (eqb n 0) z (disp_next n z))
after_disp n z h = pick_holds Standing (eqb n 0) z (disp_next n z) (λ e. h) (λ e. disp_next_lem z.length n (parts_in z) h)

standing : (rs : List Read) (z : Spans) → Standing z → Standing (follow rs z)
unfolding follow
standing [] z h = h
standing (num (disp n) ∷ rs) z h = standing rs _ (after_disp n z h)
standing (num (imm n) ∷ rs) z h = standing rs _ (imm_next_lem z.length n (parts_in z) h)
standing (num imm20 ∷ rs) z h = standing rs _ (imm_next_lem z.length 3 (parts_in z) h)
standing (cond ∷ rs) z h = standing rs _ (cond_next_lem z.length (parts_in z) h)
standing (stop e ∷ rs) z h = h

nothing_in : In 2 no_part
nothing_in = record { inside = omega arith; behind = λ i w. absurd (none_within i w) }

none_apart : (p : Part) → Apart no_part p
none_apart p i w v = none_within i w

pub begins : Each 2 no_parts
begins = record {
  code = omega arith;
  wide = nothing_in;
  short = nothing_in;
  early = nothing_in;
  wide_short = none_apart no_part;
  wide_early = none_apart no_part;
  short_early = none_apart no_part;
}

pub laid_row : (w : Row) → Laid (spans_of w).length (parts_in (spans_of w))
unfolding spans_of
laid_row w = all _ _ (standing w.reads _ begins)

-- a byte that was taken, and that no part has
pub record Free (z : Spans) (i : ℕ) : Type 0 where
  pub taken : i < z.length
  pub none : (f : Field) → Within (part_of f (parts_in z)) i → ⊥

-- no later part has it either
free_disp : (n : ℕ) (z : Spans) (i : ℕ) → Free z i → Free (disp_next n z) i
free_disp n z i h = record { taken = omega (arith, h.taken); none = none }
  where
    none : (f : Field) → Within (part_of f (parts_in (disp_next n z))) i → ⊥
    none nowhere = h.none nowhere
    none wide = h.none wide
    none short = λ w. omega (arith, h.taken, w.0)
    none early = h.none short

free_imm : (source : Source) (n : ℕ) (z : Spans) (i : ℕ) → part_in source ≡ part z.length n → Free z i → Free (imm_next source n z) i
free_imm source n z i e h = record { taken = omega (arith, h.taken); none = none }
  where
    none : (f : Field) → Within (part_of f (parts_in (imm_next source n z))) i → ⊥
    none nowhere = h.none nowhere
    none wide = λ w. let v : Within (part z.length n) i = rw e at w in omega (arith, h.taken, v.0)
    none short = h.none short
    none early = h.none early

free_cond : (z : Spans) (i : ℕ) → Free z i → Free (cond_next z) i
free_cond z i h = record { taken = omega (arith, h.taken); none = h.none }

pub stays_free : (rs : List Read) (z : Spans) (i : ℕ) → Free z i → Free (follow rs z) i
unfolding follow
stays_free [] z i h = h
stays_free (num (disp n) ∷ rs) z i h =
    stays_free rs _ i (pick_holds (λ y. Free y i) (eqb n 0) z (disp_next n z) (λ e. h) (λ e. free_disp n z i h))
stays_free (num (imm n) ∷ rs) z i h = stays_free rs _ i (free_imm (read (part z.length n)) n z i refl h)
stays_free (num imm20 ∷ rs) z i h = stays_free rs _ i (free_imm (twenty z.length) 3 z i refl h)
stays_free (cond ∷ rs) z i h = stays_free rs _ i (free_cond z i h)
stays_free (stop e ∷ rs) z i h = h

-- a condition byte is free once it is read
pub condition_free : (z : Spans) → Standing z → Free (cond_next z) z.length
condition_free z h = record { taken = omega arith; none = none }
  where
    none : (f : Field) → Within (part_of f (parts_in (cond_next z))) z.length → ⊥
    none f w = omega (arith, (all _ _ h).inside f, w.1)
