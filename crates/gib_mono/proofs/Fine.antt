-- The copy of a tree of the grammar is one.
use Rattle.std.proofs.Common.{◌≡◌, refl, ◌∙◌}
use Rattle.gib_syntax.specs.Fine.{is_atom, is_application, IsFine, AreParts, AreFine, HasFine}
use Rattle.gib_syntax.specs.Forms.{Forms, Meant}
use Rattle.gib_syntax.specs.GenericTree.{GenericExpression, GenericArguments, GenericArms, GenericVar, GenericNum, GenericBit, GenericParen, GenericOp, GenericCall, GenericMake, GenericLet, GenericPar, GenericIf, GenericCase, GenericTuple, GenericNoArgument, GenericArgument, GenericLastArm, GenericNextArm, GenericGlobals, place_named}
use Rattle.gib_syntax.specs.GenericFine.{is_generic_atom, is_generic_application, IsGenericFine, AreGenericParts, AreGenericFine, HasGenericFine}
use Rattle.gib_syntax.specs.GenericTyping.{FormScope, form_in}
use Rattle.gib_mono.specs.Bindings.{only_name}
use Rattle.gib_mono.specs.Copying.{Naming, bound_forms, copy_variables, arguments_of, forms_named, bind_forms, copy, copy_all, copy_arms}
use Rattle.gib_types.specs.Form.{form_or}
use Rattle.gib_syntax.specs.Declarations.{number_of}
use Rattle.gib_mono.proofs.Bindings.{let_atom, par_atom, let_application, par_application, let_fine, par_fine, variable_names}

pub atom_copied : (g : GenericGlobals) (nm : Naming) (m : Meant) (scope : FormScope) (e : GenericExpression) → is_atom (copy g nm m scope e) ≡ is_generic_atom e
atom_copied g nm m scope (GenericVar x) = refl
atom_copied g nm m scope (GenericNum p n) = refl
atom_copied g nm m scope (GenericBit p b) = refl
atom_copied g nm m scope (GenericParen p e) = refl
atom_copied g nm m scope (GenericOp p f a b) = refl
atom_copied g nm m scope (GenericCall f ws xs) = refl
atom_copied g nm m scope (GenericMake k ws GenericNoArgument) = refl
atom_copied g nm m scope (GenericMake k ws (GenericArgument a xs)) = refl
atom_copied g nm m scope (GenericLet p xs a b) = let_atom p (only_name xs) (copy_variables nm xs (bound_forms g m scope a)) (copy g nm m scope a) (copy g nm m (bind_forms xs (bound_forms g m scope a) scope) b)
atom_copied g nm m scope (GenericPar p xs a ys b c) =
    par_atom p (only_name xs) (copy_variables nm xs (bound_forms g m scope a)) (copy g nm m scope a) (only_name ys) (copy_variables nm ys (bound_forms g m scope b)) (copy g nm m scope b) (copy g nm m (bind_forms ys (bound_forms g m scope b) (bind_forms xs (bound_forms g m scope a) scope)) c)
atom_copied g nm m scope (GenericIf p a b c) = refl
atom_copied g nm m scope (GenericCase p x arms) = refl
atom_copied g nm m scope (GenericTuple p xs) = refl

pub application_copied : (g : GenericGlobals) (nm : Naming) (m : Meant) (scope : FormScope) (e : GenericExpression) → is_application (copy g nm m scope e) ≡ is_generic_application e
application_copied g nm m scope (GenericVar x) = refl
application_copied g nm m scope (GenericNum p n) = refl
application_copied g nm m scope (GenericBit p b) = refl
application_copied g nm m scope (GenericParen p e) = refl
application_copied g nm m scope (GenericOp p f a b) = refl
application_copied g nm m scope (GenericCall f ws xs) = refl
application_copied g nm m scope (GenericMake k ws xs) = refl
application_copied g nm m scope (GenericLet p xs a b) = let_application p (only_name xs) (copy_variables nm xs (bound_forms g m scope a)) (copy g nm m scope a) (copy g nm m (bind_forms xs (bound_forms g m scope a) scope) b)
application_copied g nm m scope (GenericPar p xs a ys b c) =
    par_application p (only_name xs) (copy_variables nm xs (bound_forms g m scope a)) (copy g nm m scope a) (only_name ys) (copy_variables nm ys (bound_forms g m scope b)) (copy g nm m scope b) (copy g nm m (bind_forms ys (bound_forms g m scope b) (bind_forms xs (bound_forms g m scope a) scope)) c)
application_copied g nm m scope (GenericIf p a b c) = refl
application_copied g nm m scope (GenericCase p x arms) = refl
application_copied g nm m scope (GenericTuple p xs) = refl

mutual
  pub fine_copied : (g : GenericGlobals) (nm : Naming) (m : Meant) (scope : FormScope) (e : GenericExpression) → IsGenericFine e → IsFine (copy g nm m scope e)
  fine_copied g nm m scope (GenericVar x) h = tt {0}
  fine_copied g nm m scope (GenericNum p n) h = h
  fine_copied g nm m scope (GenericBit p b) h = tt {0}
  fine_copied g nm m scope (GenericParen p e) h = fine_copied g nm m scope e h
  fine_copied g nm m scope (GenericOp p f a b) h =
      (fine_copied g nm m scope a h.0, fine_copied g nm m scope b h.1, application_copied g nm m scope a ∙ h.2, application_copied g nm m scope b ∙ h.3)
  fine_copied g nm m scope (GenericCall f ws GenericNoArgument) h = absurd h
  fine_copied g nm m scope (GenericCall f ws (GenericArgument a xs)) h = (fine_copied g nm m scope a h.0, atom_copied g nm m scope a ∙ h.1, all_fine_copied g nm m scope xs h.2)
  fine_copied g nm m scope (GenericMake k ws xs) h = all_fine_copied g nm m scope xs h
  fine_copied g nm m scope (GenericLet p xs a b) h =
      let_fine p xs (copy_variables nm xs (bound_forms g m scope a)) (copy g nm m scope a) (copy g nm m (bind_forms xs (bound_forms g m scope a) scope) b) (variable_names nm xs (bound_forms g m scope a)) h.0
      (fine_copied g nm m scope a h.1) (fine_copied g nm m (bind_forms xs (bound_forms g m scope a) scope) b h.2)
  fine_copied g nm m scope (GenericPar p xs a ys b c) h =
      par_fine p xs ys (copy_variables nm xs (bound_forms g m scope a)) (copy_variables nm ys (bound_forms g m scope b)) (copy g nm m scope a) (copy g nm m scope b) (copy g nm m (bind_forms ys (bound_forms g m scope b) (bind_forms xs (bound_forms g m scope a) scope)) c)
      (variable_names nm xs (bound_forms g m scope a)) (variable_names nm ys (bound_forms g m scope b)) h.0 h.1
      (fine_copied g nm m scope a h.2) (fine_copied g nm m scope b h.3) (fine_copied g nm m (bind_forms ys (bound_forms g m scope b) (bind_forms xs (bound_forms g m scope a) scope)) c h.4)
  fine_copied g nm m scope (GenericIf p a b c) h = (fine_copied g nm m scope a h.0, fine_copied g nm m scope b h.1, fine_copied g nm m scope c h.2)
  fine_copied g nm m scope (GenericCase p x arms) h = arms_fine_copied g nm m scope (arguments_of (form_or (form_in scope (number_of x)))) arms h
  fine_copied g nm m scope (GenericTuple p GenericNoArgument) h = absurd h
  fine_copied g nm m scope (GenericTuple p (GenericArgument a GenericNoArgument)) h = absurd h
  fine_copied g nm m scope (GenericTuple p (GenericArgument a (GenericArgument b xs))) h = (fine_copied g nm m scope a h.0, parts_fine_copied g nm m scope (GenericArgument b xs) h.1)

  parts_fine_copied : (g : GenericGlobals) (nm : Naming) (m : Meant) (scope : FormScope) (xs : GenericArguments) → AreGenericParts xs → AreParts (copy_all g nm m scope xs)
  parts_fine_copied g nm m scope GenericNoArgument h = tt {0}
  parts_fine_copied g nm m scope (GenericArgument a xs) h = (fine_copied g nm m scope a h.0, parts_fine_copied g nm m scope xs h.1)

  pub all_fine_copied : (g : GenericGlobals) (nm : Naming) (m : Meant) (scope : FormScope) (xs : GenericArguments) → AreGenericFine xs → AreFine (copy_all g nm m scope xs)
  all_fine_copied g nm m scope GenericNoArgument h = tt {0}
  all_fine_copied g nm m scope (GenericArgument a xs) h = (fine_copied g nm m scope a h.0, atom_copied g nm m scope a ∙ h.1, all_fine_copied g nm m scope xs h.2)

  pub arms_fine_copied : (g : GenericGlobals) (nm : Naming) (m : Meant) (scope : FormScope) (ts : Forms) (arms : GenericArms) → HasGenericFine arms → HasFine (copy_arms g nm m scope ts arms)
  arms_fine_copied g nm m scope ts (GenericLastArm k xs e) h = fine_copied g nm m (bind_forms xs (forms_named g.rows (place_named g.rows (number_of k)) ts) scope) e h
  arms_fine_copied g nm m scope ts (GenericNextArm k xs e arms) h =
      (fine_copied g nm m (bind_forms xs (forms_named g.rows (place_named g.rows (number_of k)) ts) scope) e h.0, arms_fine_copied g nm m scope ts arms h.1)
