-- The names that the report shows, and what of it stands where memory was wanting.
use Rattle.std.proofs.Common.{ℕ, suc, ◌≡◌, ◌<◌, refl, sym, ◌∙◌, ap, subst, List, ◌++◌, Some, Result, Ok, Err, OnErr, length, slice_get, get_or, take, drop, append_assoc, append-nil, [], take-append-drop, drop-cons, arith}
use Rattle.std.specs.List.{flat_map}
use Rattle.std.proofs.lemmas.List.Concat.{flat_map-cons}
use Rattle.std.proofs.lemmas.Grind.{flat_map-append}
use Rattle.std.proofs.lemmas.Option.{slice_get_within}
use Rattle.std.specs.Option.{option_map}
use Rattle.support.proofs.ListLaws.{item_there}
use Rattle.support.proofs.OptionLaws.{part_of}
use Rattle.llvm_core.specs.declared.code.FunctionData.{FunctionData}
use Rattle.llvm_core.specs.Module.{Module}
use Rattle.llvm_core.specs.Data.{Function, data_of}
use Rattle.llvm_core.proofs.DataLemmas.{function_at, function_count}
use Rattle.round_ll.specs.Report.{name_of, HoldsFront}

pub name_of-function : (m : Module) (k : ℕ) (name : List ℕ) → option_map (λ (x : FunctionData). x.name) (slice_get m.functions k) ≡ Some name → name_of (data_of m) k ≡ name
name_of-function m k name h =
    let x = part_of (λ (y : FunctionData). y.name) (slice_get m.functions k) name h in
    rw (function_at m k x.0 x.1.0) x.1.1

-- a function of the data has a number below the count of functions
pub number_within : (m : Module) (i : ℕ) (f : Function) → slice_get (data_of m).functions i ≡ Some f → f.number < length m.functions
number_within m i f at =
    let small = slice_get_within (data_of m).functions i f at in
    let there = item_there m.functions i (omega (arith, small, function_count m)) in
    let same = sym (function_at m i there.0 there.1) ∙ at in
    let e : f.number ≡ i = cc same in
    omega (arith, e, small, function_count m)

-- ---- fronts of a text

-- where a call that failed wrote nothing more
pub front_done : (before after done text : List ℕ) → after ≡ before ++ done → HoldsFront before after (done ++ text)
front_done before after done text is = record { front = done; rest = text; is = refl; held = is }

-- and where it wrote nothing at all
pub front_none : (before after text : List ℕ) → after ≡ before → HoldsFront before after text
front_none before after text is = record { front = []; rest = text; is = refl; held = is ∙ sym (append-nil before) }

-- more text behind
pub front_of : (before after text more : List ℕ) → HoldsFront before after text → HoldsFront before after (text ++ more)
front_of before after text more h = record { front = h.front; rest = h.rest ++ more; is = ap (λ l. l ++ more) h.is ∙ append_assoc h.front h.rest more; held = h.held }

-- a part that is done in front
pub front_behind : (before middle after done text : List ℕ) → middle ≡ before ++ done → HoldsFront middle after text → HoldsFront before after (done ++ text)
front_behind before middle after done text is h = record {
  front = done ++ h.front;
  rest = h.rest;
  is = ap (λ l. done ++ l) h.is ∙ sym (append_assoc done h.front h.rest);
  held = h.held ∙ ap (λ l. l ++ h.front) is ∙ append_assoc before done h.front;
}

pub text_at : {X : Type 0} (f : X → List ℕ) (xs : List X) (i : ℕ) (d : X) → i < length xs → flat_map f xs ≡ flat_map f (take i xs) ++ (f (get_or xs i d) ++ flat_map f (drop (suc i) xs))
text_at f xs i d in_range =
    ap (flat_map f) (sym (take-append-drop i xs))
    ∙ flat_map-append f (take i xs) (drop i xs)
    ∙ ap (λ ys. flat_map f (take i xs) ++ flat_map f ys) (drop-cons xs i d in_range)
    ∙ ap (λ l. flat_map f (take i xs) ++ l) (flat_map-cons f (get_or xs i d) (drop (suc i) xs))

-- a loop that stops within an item
pub front_in_loop : {X : Type 0} (f : X → List ℕ) (xs : List X) (i : ℕ) (d : X) (before middle after : List ℕ) → i < length xs → middle ≡ before ++ flat_map f (take i xs) → HoldsFront middle after (f (get_or xs i d)) → HoldsFront before after (flat_map f xs)
front_in_loop f xs i d before middle after in_range is h =
    subst (HoldsFront before after) (sym (text_at f xs i d in_range))
    (front_behind before middle after (flat_map f (take i xs)) _ is (front_of middle after (f (get_or xs i d)) (flat_map f (drop (suc i) xs)) h))

-- what is left holds whatever the error is
pub on_err : {T E : Type 0} (P : Type 0) (result : Result T E) → P → OnErr result P
on_err P (Ok value) p = tt
on_err P (Err e) p = p

-- within the places of a line
pub front_in_line : (before middle after word name shown places more : List ℕ) → shown ≡ name → middle ≡ (before ++ word) ++ shown → HoldsFront middle after places → HoldsFront before after (((word ++ name) ++ places) ++ more)
front_in_line before middle after word name shown places more same is h =
    front_of before after ((word ++ name) ++ places) more
    (front_behind before middle after (word ++ name) places (is ∙ append_assoc before word shown ∙ ap (λ n. before ++ (word ++ n)) same) h)

pub on_err_then : {T E : Type 0} (P Q : Type 0) (result : Result T E) → (P → Q) → OnErr result P → OnErr result Q
on_err_then P Q (Ok value) next h = tt
on_err_then P Q (Err e) next h = next h
