-- What stands for types fits a row just where they do: one equation, for all rows.
use Rattle.std.proofs.Common.{◌≡◌, ℕ, Bool, ◌&&◌, Option, Some, None, refl, ap, ◌∙◌}
use Rattle.std.specs.Prelude.{IfSome}
use Rattle.std.specs.Option.{option_map}
use Rattle.kinds.specs.declared.rules.Fit.{Fit}
use Rattle.kinds.specs.declared.rules.Fit.TheVariants as F
use Rattle.kinds.specs.declared.rules.Takes.{Takes}
use Rattle.kinds.specs.declared.rules.Takes.TheVariants as T
use Rattle.kinds.specs.declared.rules.Gives.{Gives}
use Rattle.kinds.specs.declared.rules.Gives.TheVariants as G
use Rattle.kinds.specs.declared.rules.Rule.{Rule}
use Rattle.kinds.specs.declared.rules.Cast.{Cast}
use Rattle.kinds.specs.declared.fitting.Laned.{Laned}
use Rattle.kinds.specs.Fitting.{is_value, is_number, is_comparable, is_sized, is_bit, is_one, is_address, is_cast_laned, is_chosen_laned, is_same, is_chosen, is_cast_to, is_place, fit_one, fit, takes_fit, is_no_type, is_value_type, is_written, fits}

module _ {X Y : Type 0} (laned : X → Laned) (same : X → X → Bool) (laned' : Y → Laned) (same' : Y → Y → Bool) (h : X → Y) (Good : X → Type 0)
    (keeps : (t : X) → Good t → laned' (h t) ≡ laned t) (told : (s t : X) → Good s → Good t → same' (h s) (h t) ≡ same s t) where
  same_kept : (a : Option X) (t : X) → IfSome a Good → Good t → is_same laned' same' (option_map h a) (h t) ≡ is_same laned same a t
  same_kept None t g k = refl
  same_kept (Some a) t g k = told a t g k

  chosen_kept : (a : Option X) (t : X) → IfSome a Good → Good t → is_chosen laned' same' (option_map h a) (h t) ≡ is_chosen laned same a t
  chosen_kept None t g k = refl
  chosen_kept (Some a) t g k = ap (λ (l : Laned). is_chosen_laned l (laned' (h t))) (keeps a g) ∙ ap (is_chosen_laned (laned a)) (keeps t k)

  cast_kept : (by : Cast) (w : Option X) (t : X) → IfSome w Good → Good t → is_cast_to laned' same' by (option_map h w) (h t) ≡ is_cast_to laned same by w t
  cast_kept by None t g k = refl
  cast_kept by (Some w) t g k = ap (λ (l : Laned). is_cast_laned by l (laned' (h w))) (keeps t k) ∙ ap (is_cast_laned by (laned t)) (keeps w g)

  place_kept : (w : Option X) (t : X) → IfSome w Good → Good t → is_place laned' same' (option_map h w) (h t) ≡ is_place laned same w t
  place_kept None t g k = refl
  place_kept (Some w) t g k = ap (λ (l : Laned). is_address (laned' (h t)) && is_sized l.lane) (keeps w g) ∙ ap (λ (l : Laned). is_address l && is_sized (laned w).lane) (keeps t k)

  one_kept : (f : Fit) (w a b : Option X) (t : X) → IfSome w Good → IfSome a Good → IfSome b Good → Good t
      → fit_one laned' same' f (option_map h w) (option_map h a) (option_map h b) (h t) ≡ fit_one laned same f w a b t
  one_kept F.Any w a b t gw ga gb k = ap (λ (l : Laned). is_value l.lane) (keeps t k)
  one_kept F.Number w a b t gw ga gb k = ap (λ (l : Laned). is_number l.lane) (keeps t k)
  one_kept F.Comparable w a b t gw ga gb k = ap (λ (l : Laned). is_comparable l.lane) (keeps t k)
  one_kept F.Sized w a b t gw ga gb k = ap (λ (l : Laned). is_sized l.lane) (keeps t k)
  one_kept F.Address w a b t gw ga gb k = ap is_address (keeps t k)
  one_kept F.Place w a b t gw ga gb k = place_kept w t gw k
  one_kept F.Bit w a b t gw ga gb k = ap (λ (l : Laned). is_one l.lanes && is_bit l.lane) (keeps t k)
  one_kept F.Bits w a b t gw ga gb k = ap (λ (l : Laned). is_bit l.lane) (keeps t k)
  one_kept F.Chosen w a b t gw ga gb k = chosen_kept a t ga k
  one_kept F.First w a b t gw ga gb k = same_kept a t ga k
  one_kept F.Second w a b t gw ga gb k = same_kept b t gb k
  one_kept (F.Cast by) w a b t gw ga gb k = cast_kept by w t gw k

  fit_kept : (f : Fit) (w a b o : Option X) → IfSome w Good → IfSome a Good → IfSome b Good → IfSome o Good
      → fit laned' same' f (option_map h w) (option_map h a) (option_map h b) (option_map h o) ≡ fit laned same f w a b o
  fit_kept f w a b None gw ga gb k = refl
  fit_kept f w a b (Some t) gw ga gb k = one_kept f w a b t gw ga gb k

  takes_kept : (k : Takes) (n : ℕ) (w a b c : Option X) → IfSome w Good → IfSome a Good → IfSome b Good → IfSome c Good
      → takes_fit laned' same' k n (option_map h w) (option_map h a) (option_map h b) (option_map h c) ≡ takes_fit laned same k n w a b c
  takes_kept T.Nothing n w a b c gw ga gb gc = refl
  takes_kept (T.One f) n w a b c gw ga gb gc = let e = fit_kept f w a b a gw ga gb ga in cc
  takes_kept (T.Two f f') n w a b c gw ga gb gc = let e = fit_kept f w a b a gw ga gb ga in let e' = fit_kept f' w a b b gw ga gb gb in cc
  takes_kept (T.Three f f' f'') n w a b c gw ga gb gc =
      let e = fit_kept f w a b a gw ga gb ga in
      let e' = fit_kept f' w a b b gw ga gb gb in
      let e'' = fit_kept f'' w a b c gw ga gb gc in
      cc
  takes_kept T.Return n w a b c gw ga gb gc = refl

  none_kept : (w : Option X) → is_no_type laned' same' (option_map h w) ≡ is_no_type laned same w
  none_kept None = refl
  none_kept (Some w) = refl

  value_kept : (w : Option X) → IfSome w Good → is_value_type laned' same' (option_map h w) ≡ is_value_type laned same w
  value_kept None g = refl
  value_kept (Some w) g = ap (λ (l : Laned). is_value l.lane) (keeps w g)

  written_kept : (k : Gives) (w : Option X) → IfSome w Good → is_written laned' same' k (option_map h w) ≡ is_written laned same k w
  written_kept G.Nothing w g = none_kept w
  written_kept G.First w g = none_kept w
  written_kept G.Second w g = none_kept w
  written_kept G.Written w g = value_kept w g
  written_kept G.Bits w g = none_kept w

  pub fits_kept : (r : Rule) (n : ℕ) (w a b c : Option X) → IfSome w Good → IfSome a Good → IfSome b Good → IfSome c Good
      → fits laned' same' r n (option_map h w) (option_map h a) (option_map h b) (option_map h c) ≡ fits laned same r n w a b c
  fits_kept r n w a b c gw ga gb gc = let e = written_kept r.gives w gw in let e' = takes_kept r.takes n w a b c gw ga gb gc in cc
