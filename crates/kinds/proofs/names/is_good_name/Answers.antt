-- A `str` is UTF-8.
use Rattle.std.proofs.Common.{◌≡◌, Bool, true, false, not, ◌&&◌}
use Rattle.std.specs.Str.{is_utf8}
use Rattle.std.proofs.lemmas.Str.{is_utf8-from_IsUtf8}
use Rattle.kinds.proofs.names.is_good_name.Goals as goal

known : (x y u : Bool) → x ≡ y → u ≡ true → not x ≡ (not y && u)
known true y u e h = cc
known false y u e h = cc

pub returns : goal.returns
returns c = known c.is_bad_name.result _ (is_utf8 c.args.name.now) c.is_bad_name.ensures (is_utf8-from_IsUtf8 c.args.name.now c.utf8.name)
