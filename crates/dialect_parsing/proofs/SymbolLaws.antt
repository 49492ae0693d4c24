-- `==` of symbols is equality of values.
use Rattle.std.proofs.Common.{◌≡◌, ◌≤◌, ◌-◌, true, List, [], ◌∷◌, length, take, drop, get_or, ℕ, sym, ap, ◌∙◌, arith}
use Rattle.std.proofs.Math.Seq.{take-length}
use Rattle.std.proofs.lemmas.Slice.Eq.{bytes_eq-Decides}
use Rattle.dialect_parsing.specs.contracts.symbol.SymbolPartialEq.TheImpl as symbols
use Rattle.dialect_parsing.specs.declared.symbol.Symbol.{Symbol}
use Rattle.dialect_parsing.specs.declared.symbol.Symbol.TheVariants as S

pub same_symbol : (a b : Symbol) → symbols.eq-value.it a b ≡ true → a ≡ b
same_symbol (S.Name a) (S.Name b) h = let e = bytes_eq-Decides a b in grind (arith, e)
same_symbol a b h = grind arith

-- the first of some symbols is this one
pub first_is : (xs : List Symbol) (x s : Symbol) → 1 ≤ length xs → x ≡ get_or xs 0 x → x ≡ s → xs ≡ s ∷ take (length xs - 1) (drop 1 xs)
first_is [] x s some first same = absurd (omega arith)
first_is (y ∷ ys) x s some first same =
    let count : length (y ∷ ys) - 1 ≡ length ys = omega arith in
    let all : take (length (y ∷ ys) - 1) ys ≡ ys = ap (λ (n : ℕ). take n ys) count ∙ take-length ys in
    let here : y ≡ s = sym first ∙ same in
    cc
