-- Taking a save's symbols off one after another: what was taken so far, and that one more is there.
use Rattle.std.proofs.Common.{◌≡◌, ℕ, suc, ◌+◌, ◌*◌, ◌<◌, List, [], ◌∷◌, ◌++◌, length, take, drop, sym, ap, ◌∙◌, subst, arith, length-drop, drop-drop}
use Rattle.sheet.specs.Fields.{Shows, IllFormed}
use Rattle.sheet.specs.Parsing.{BeginWith, AllWellFormed}

-- one symbol more
pub begin_push : (cs vs rest : List ℕ) (v : ℕ) → BeginWith cs vs → rest ≡ drop (4 * length vs) cs → Shows (take 4 rest) v → BeginWith cs (vs ++ v ∷ [])
begin_push cs [] rest v h e s = (subst (λ k. Shows (take 4 k) v) e s, tt)
begin_push cs (u ∷ vs) rest v h e s =
    let at : 4 * suc (length vs) ≡ 4 + 4 * length vs = omega arith in
    (h.0, begin_push (drop 4 cs) vs rest v h.1 (e ∙ ap (λ n. drop n cs) at ∙ sym (drop-drop (4 * length vs) 4 cs)) s)

-- while columns are left, the next four show a number
pub symbol_there : (cs rest : List ℕ) (i : ℕ) → AllWellFormed cs → rest ≡ drop (4 * i) cs → 0 < length rest → IllFormed (take 4 rest) → ⊥
symbol_there cs rest i all e some ill =
    let inside : 4 * i < length cs = omega (arith, ap length e, length-drop (4 * i) cs) in
    let w = all i inside in
    ill w.0 (subst (λ k. Shows (take 4 k) w.0) (sym e) w.1)
