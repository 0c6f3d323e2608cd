-- What the makers of alphabets and codes grant is what the catalog offers. Assumes nothing.
use Rattle.std.proofs.Common.{◌≡◌, ℕ, ◌*◌, ◌≤◌, Ok, subst}
use Rattle.alphabet.specs.Inverses.{with_inverses}
use Rattle.code.specs.Bare.{bare}
use Rattle.plane.specs.Plane.{plane}
use Rattle.catalog.specs.declared.kinds.AlphabetKind.{AlphabetKind}
use Rattle.catalog.specs.declared.kinds.CodeKind.TheVariants.{Bare, Plane}
use Rattle.catalog.specs.Kinds.{arithmetic_of, Size}
use Rattle.catalog.specs.Offers.{Offer, bare_code, plane_code}

pub bare_offered : (alphabet : AlphabetKind) (q n size cells : ℕ) → size ≡ q → cells ≡ n → Size alphabet Bare q → 2 ≤ cells → cells ≤ 256 → Offer alphabet q n Bare (Ok (bare (arithmetic_of alphabet size) cells))
bare_offered alphabet q n size cells same_size same_length offered long short =
    rw (same_size, same_length) (bare_code offered (subst (λ (k : ℕ). 2 ≤ k) same_length long) (subst (λ (k : ℕ). k ≤ 256) same_length short))

pub plane_offered : (alphabet : AlphabetKind) (q n size : ℕ) → size ≡ q → n ≡ q * q → Size alphabet Plane q → Offer alphabet q n Plane (Ok (plane (with_inverses (arithmetic_of alphabet size))))
plane_offered alphabet q n size same_size square offered = rw same_size (plane_code offered square)
