-- The plane over any field is a lawful code. Assumes nothing.
use Rattle.std.proofs.Common.{sym, ap, ◌∙◌, mod-eq_of_lt, mul-le-mul, arith}
use Rattle.std.specs.Prelude.{ℕ}
use Rattle.code.specs.Laws.{CodeLaws}
use Rattle.alphabet.specs.Field.{FieldArithmetic, FieldLaws}
use Rattle.plane.specs.Plane.{plane}
use Rattle.plane.specs.Information.{two_rows, length_information, information_ascends, information_within}
use Rattle.plane.specs.Apart.{three_apart}
use Rattle.plane.specs.Shifted.{word_shifted}
use Rattle.plane.specs.Filling.{filled, filled_once}
use Rattle.sums.proofs.Symbols.{same_symbol, finite, inverses}
use Rattle.plane.specs.Holds.{word_from, word_holds}

pub plane_laws : (f : FieldArithmetic) → FieldLaws f → CodeLaws (plane f)
plane_laws f l = record {
  arithmetic = l.lawful;
  cells_two = omega (arith, l.three, two_rows f.arithmetic.size l.lawful.two);
  cells_most = mul-le-mul l.lawful.sixteen l.lawful.sixteen;
  information_two = omega (arith, l.three, two_rows f.arithmetic.size l.lawful.two, length_information f.arithmetic.size l.lawful.two);
  information_ascends = information_ascends f.arithmetic.size l.lawful.two;
  information_within = information_within f.arithmetic.size l.lawful.two;
  words = λ w t. let word = word_from f.arithmetic l.lawful w t in record { whole = word.whole; symbols = word.below };
  filled = λ xs long below. let w = filled (finite f.arithmetic l.lawful) xs long below in (w.0, word_holds f.arithmetic l.lawful w.0 w.1, w.2);
  filled_once = λ v w tv tw same. filled_once (finite f.arithmetic l.lawful) v w (word_from f.arithmetic l.lawful v tv) (word_from f.arithmetic l.lawful w tw) same;
  shifted = λ w z t h.
      word_holds f.arithmetic l.lawful _ (word_shifted (finite f.arithmetic l.lawful) w (z, h) (λ x. f.arithmetic.sum x z) (λ x hx. l.lawful.sum_below x z hx h)
      (λ x hx. same_symbol f.arithmetic _ _ (mod-eq_of_lt (l.lawful.sum_below x z hx h) ∙ ap (λ (y : ℕ). f.arithmetic.sum y z) (sym (mod-eq_of_lt hx)))) (word_from f.arithmetic l.lawful w t));
  apart = λ v w tv tw other. three_apart (finite f.arithmetic l.lawful) (inverses f l) v w (word_from f.arithmetic l.lawful v tv) (word_from f.arithmetic l.lawful w tw) other;
}
