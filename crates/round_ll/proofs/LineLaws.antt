-- A line that is written part after part.
use Rattle.std.proofs.Common.{ℕ, ◌≡◌, ◌≤◌, ◌<◌, ◌+◌, inl, inr, true, false, nat_eq, List, [], ◌++◌, Option, Some, None, codes, length, take, append_assoc, length-append, refl, sym, ◌∙◌, ap, subst, arith}
use Rattle.std.specs.Prelude.{Result, Ok, Err, OnOk, OnErr}
use Rattle.std.proofs.lemmas.List.{take-append-le}
use Rattle.std.proofs.Math.Seq.{take-append-add}
use Rattle.std.specs.Io.KnownBytes.{append_known}
use Rattle.round_ll.specs.Outside.AllBytes.{TookFront}
use Rattle.round_ll.specs.Outside.Causes.{Rose, HasCause}
use Rattle.round_ll.specs.Running.{Told, Says}
use Rattle.round_ll.specs.Ending.{head_of, name_of, line_of}
use Rattle.round_ll.specs.declared.ended.Ended.{Ended}
use Rattle.round_ll.specs.declared.ended.Ended.TheVariants.{Done, Refused, NoMemory}

-- the parts of a line are its head, its name and its end
pub line_is : (e : Ended) → ¬ (head_of e ≡ []) → line_of e ≡ (head_of e ++ name_of e) ++ codes "\n"
line_is (Done t) h = absurd (h refl)
line_is (Refused f) h = refl
line_is NoMemory h = refl

appended_twice : (o : Option (List ℕ)) (a b : List ℕ) → append_known (append_known o a) b ≡ append_known o (a ++ b)
appended_twice None a b = refl
appended_twice (Some xs) a b = ap Some (append_assoc xs a b)

rose_later : (e m n : ℕ) → e ≤ m → Rose m n → Rose e n
rose_later e m n le h = omega (arith, le, h)

take_behind : (a b : List ℕ) (n : ℕ) → a ++ take n b ≡ take (length a + n) (a ++ b)
take_behind a b n = sym (take-append-add a b n)

take_inside : (a b : List ℕ) (n : ℕ) → n < length a → take n a ≡ take n (a ++ b)
take_inside a b n h = sym (take-append-le n a b (omega (arith, h)))

-- the first part is written, and then the rest or a front of it
pub says_more : (e m e' : Told) (a b : List ℕ) → m.bytes ≡ append_known e.bytes a → e.faults ≤ m.faults → Says m e' b → Says e e' (a ++ b)
says_more e m e' a b first later (inl h) = inl (h ∙ ap (λ o. append_known o b) first ∙ appended_twice e.bytes a b)
says_more e m e' a b first later (inr h) =
    let (n, small, is) = h.0 in
    let long = length-append a b in
    inr (
      (length a + n, omega (arith, small, long), is ∙ ap (λ o. append_known o (take n b)) first ∙ appended_twice e.bytes a (take n b) ∙ ap (append_known e.bytes) (take_behind a b n)),
      rose_later e.faults m.faults e'.faults later h.1,
    )

-- a front of the first part is written
pub says_front : (e e' : Told) (a b : List ℕ) → TookFront e.bytes e'.bytes a → Rose e.faults e'.faults → Says e e' (a ++ b)
says_front e e' a b h rose =
    let (n, small, is) = h in
    let long = length-append a b in
    inr ((n, omega (arith, small, long), is ∙ ap (append_known e.bytes) (take_inside a b n small)), rose)

-- what a write came to
pub written : {T E : Type 0} (r : Result T E) (e e' : Told) (line : List ℕ) → OnOk r (e'.bytes ≡ append_known e.bytes line) → OnErr r (TookFront e.bytes e'.bytes line) → HasCause e.faults e'.faults r → Says e e' line
written (Ok x) e e' line taken front cause = inl taken
written (Err x) e e' line taken front cause = inr (front, cause.failed)

-- a line in three parts
pub says_three : (s m n e : Told) (a b c : List ℕ) → m.bytes ≡ append_known s.bytes a → s.faults ≤ m.faults → n.bytes ≡ append_known m.bytes b → m.faults ≤ n.faults → Says n e c → Says s e ((a ++ b) ++ c)
says_three s m n e a b c first early second later third =
    subst (Says s e) (sym (append_assoc a b c)) (says_more s m e a (b ++ c) first early (says_more m n e b c second later third))

pub says_two : (s m e : Told) (a b c : List ℕ) → m.bytes ≡ append_known s.bytes a → s.faults ≤ m.faults → TookFront m.bytes e.bytes b → Rose m.faults e.faults → Says s e ((a ++ b) ++ c)
says_two s m e a b c first early front rose = subst (Says s e) (sym (append_assoc a b c)) (says_more s m e a (b ++ c) first early (says_front m e b c front rose))

-- a head with bytes, a name and an end are the line of an answer
pub said : (e : Ended) (s t : Told) (head name : List ℕ) → head ≡ head_of e → name ≡ name_of e → false ≡ nat_eq (length head) 0 → Says s t ((head ++ name) ++ codes "\n") → Says s t (line_of e)
said e s t head name is_head is_name some says =
    let none : ¬ (head_of e ≡ []) = λ empty. let no : false ≡ true = some ∙ ap (λ (h : List ℕ). nat_eq (length h) 0) (is_head ∙ empty) in cc in
    subst (Says s t) (ap (λ (h : List ℕ). (h ++ name) ++ codes "\n") is_head ∙ ap (λ (n : List ℕ). (head_of e ++ n) ++ codes "\n") is_name ∙ sym (line_is e none)) says
