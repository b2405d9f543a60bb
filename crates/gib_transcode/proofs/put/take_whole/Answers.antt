use Rattle.std.proofs.Common.{ℤ, sym, ap, ◌∙◌, arith}
use Rattle.std.specs.Int.{w64}
use Rattle.std.proofs.lemmas.Int.{to_z-of_z}
use Rattle.std.proofs.lemmas.List.{append-nil}
use Rattle.gib_file.specs.Packed.{number}
use Rattle.gib_types.specs.Tree.{whole}
use Rattle.gib_transcode.specs.Rooms.{over}
use Rattle.gib_transcode.proofs.put.take_whole.Goals as goal

pub returns : goal.returns
returns c = λ table names. record {
  value = whole c.in-Some.z;
  typed = c.in-Some.ensures.fits;
  spelled = c.in-Some.ensures.is;
  put = c.put_number.ensures ∙ ap (λ (z : ℤ). over c.args.place (number z) c.args.out.now.items) (to_z-of_z w64 c.in-Some.z c.in-Some.ensures.fits) ∙ sym (append-nil _);
  passed = omega arith;
  shorter = c.in-Some.ensures.shorter;
}
