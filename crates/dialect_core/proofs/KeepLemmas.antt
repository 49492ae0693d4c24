-- The bytes after one call or more of a printing function: what they keep, and what stands in them. By these a proof is found without a search.
use Rattle.std.proofs.Common.{◌≡◌, ℕ, Result, Ok, Err, OnOk, List, [], ◌++◌, sym, ◌∙◌}
use Rattle.std.specs.Prelude.{is_ok, if◌then◌else◌}
use Rattle.std.proofs.lemmas.List.{append-nil}
use Rattle.support.proofs.ListLaws.{appended_twice}
use Rattle.dialect_types.specs.Text.{Keeps}
use Rattle.dialect_types.proofs.TextLemmas.{keeps_then, keeps_extended, keeps_appended}

-- no bytes were appended
pub kept_equal : (a b : List ℕ) → b ≡ a → Keeps a b
kept_equal a b e = record { rest = []; is = e ∙ sym (append-nil a) }

-- then bytes were appended
pub then_appended : (a b x c : List ℕ) → Keeps a b → c ≡ b ++ x → Keeps a c
then_appended a b x c h e = keeps_then a b c h (keeps_appended b x c e)

-- after a call that appends on `Ok` alone: what is kept, and what stands there then
pub then_extended : {E : Type 0} (r : Result (Unit {0}) E) (a b x c : List ℕ) → Keeps a b → c ≡ (if is_ok r then b ++ x else b) → Keeps a c
then_extended r a b x c h e = keeps_then a b c h (keeps_extended r b x c e)

pub on_extended : {E : Type 0} (r : Result (Unit {0}) E) (b x c : List ℕ) → c ≡ (if is_ok r then b ++ x else b) → OnOk r (c ≡ b ++ x)
on_extended (Ok v) b x c e = e
on_extended (Err f) b x c e = tt

-- five texts one after another
pub five_texts : (start o1 o2 o3 o4 end a b c d e : List ℕ) → o1 ≡ start ++ a → o2 ≡ o1 ++ b → o3 ≡ o2 ++ c → o4 ≡ o3 ++ d → end ≡ o4 ++ e → end ≡ start ++ ((((a ++ b) ++ c) ++ d) ++ e)
five_texts start o1 o2 o3 o4 end a b c d e e1 e2 e3 e4 e5 =
    let two = appended_twice start o1 o2 a b e1 e2 in
    let three = appended_twice start o2 o3 (a ++ b) c two e3 in
    let four = appended_twice start o3 o4 ((a ++ b) ++ c) d three e4 in
    appended_twice start o4 end (((a ++ b) ++ c) ++ d) e four e5

-- six texts one after another
pub six_texts : (start o1 o2 o3 o4 o5 end a b c d e f : List ℕ) → o1 ≡ start ++ a → o2 ≡ o1 ++ b → o3 ≡ o2 ++ c → o4 ≡ o3 ++ d → o5 ≡ o4 ++ e → end ≡ o5 ++ f → end ≡ start ++ (((((a ++ b) ++ c) ++ d) ++ e) ++ f)
six_texts start o1 o2 o3 o4 o5 end a b c d e f e1 e2 e3 e4 e5 e6 =
    appended_twice start o5 end ((((a ++ b) ++ c) ++ d) ++ e) f (five_texts start o1 o2 o3 o4 o5 a b c d e e1 e2 e3 e4 e5) e6
