-- A command is due more than a refusal by the change that it is.
use Rattle.std.proofs.Common.{◌≡◌, ℕ, suc, ◌+◌, Bool, true, ◌||◌, List, [], ◌∷◌, ◌++◌, flat_map, length, Ok, refl, ap, ◌∙◌, arith}
use Rattle.std.specs.Prelude.{nat_lt}
use Rattle.std.proofs.lemmas.Bool.Decides.{nat_tests}
use Rattle.obj_id.specs.declared.commands.Command.{Command}
use Rattle.obj_id.specs.declared.commands.Command.TheVariants as command
use Rattle.obj_id.specs.declared.commands.Reply.{Reply}
use Rattle.obj_id.specs.declared.commands.Reply.TheVariants as reply
use Rattle.private_store.specs.declared.inputs.Input.{Input}
use Rattle.private_store.specs.declared.inputs.Input.TheVariants as input
use Rattle.private_store.specs.rules.Shape.{Shape, Change}
use Rattle.private_store.specs.rules.Change.{erasing}
use Rattle.private_store.specs.rules.Contents.{Contents, View, judge, whole_reply}
use Rattle.private_store.specs.rules.Private.{Post, posts_of, view_after, view_step}
use Rattle.private_store.specs.rules.Step.{step}
use Rattle.job_row.specs.Row.{Row}
use Rattle.row_steps.specs.MemoryLast.{is_more, may_grow}
use Rattle.row_steps.specs.Shown.{seen, IsShown}
use Rattle.row_steps.proofs.ByChecks.{own}
use Rattle.row_steps.proofs.Stepping.{change}
use Rattle.row_steps.specs.Beside.{SharedTables, shape_of}

-- ---- of a reply with its bytes

whole_late : (begun : Bool) (view : View) (x : Input) (r : Reply ℕ) → is_more begun (whole_reply view x r) ≡ is_more begun r
whole_late begun view x reply.Ok = refl
whole_late begun view x (reply.Placed offset n) = refl
whole_late begun view x (reply.Got n) = refl
whole_late begun view x (reply.Bytes n) = refl
whole_late begun view x (reply.List own granted) = refl
whole_late begun view x (reply.Usage usage) = refl
whole_late begun view x (reply.Work work) = refl
whole_late begun view x reply.NoWork = refl
whole_late begun view x (reply.Refused refusal) = refl

-- ---- of what is sent

more_than_none : (n : ℕ) → nat_lt 0 (suc n) ≡ true
more_than_none n = grind (arith, nat_tests)

some_first : {X : Type 0} (xs ys : List X) → nat_lt 0 (length ys) ≡ true → nat_lt 0 (length (xs ++ ys)) ≡ true
some_first [] ys some = some
some_first (x ∷ xs) ys some = more_than_none (length (xs ++ ys))

-- whatever goes before it
pub some_last : {X Y : Type 0} (f : X → List Y) (before after : List X) → nat_lt 0 (length (flat_map f after)) ≡ true → nat_lt 0 (length (flat_map f (before ++ after))) ≡ true
some_last f [] after some = some
some_last f (x ∷ before) after some = some_first (f x) (flat_map f (before ++ after)) (some_last f before after some)

-- ---- of a command

module _ (node : ℕ) (row : Row) (beside : SharedTables) (contents : Contents) (session : ℕ) (h : IsShown row beside contents) where
  abbrev s : Shape
  s = shape_of row beside

  abbrev w : View
  w = seen row beside contents

  abbrev asks : Command (List ℕ) → Input
  asks c = input.Call session c

  abbrev pub IsLate : Command (List ℕ) → Type 0
  IsLate c = may_grow w (view_step node w (asks c)) ≡ true

  -- what a change sends
  abbrev posts : Command (List ℕ) → Change → List Post
  posts c d = flat_map (posts_of node (view_after node w (asks c) (judge node w (asks c)) d) (asks c)) d.sent

  abbrev pub more_by : Command (List ℕ) → Change → Bool
  more_by c d = is_more (nat_lt s.works_asked d.shape.works_asked || nat_lt 0 (length (posts c d))) d.reply

  -- by the change that the command is
  pub late_by : (c : Command (List ℕ)) (d : Change) → step row.order s (judge node w (asks c)) ≡ erasing s d → more_by c (erasing s d) ≡ true → IsLate c
  late_by c d is late =
      let e = step row.order s (judge node w (asks c)) in
      whole_late (nat_lt s.works_asked e.shape.works_asked || nat_lt 0 (length (posts c e))) w (asks c) e.reply ∙ ap (more_by c) is ∙ late

  -- a command that is answered Ok
  pub late_if_ok : (c : Command (List ℕ)) → (change node row beside contents h (asks c)).reply ≡ reply.Ok → IsLate c
  late_if_ok c is =
      let e = step row.order s (judge node w (asks c)) in
      ap (λ r. is_more (nat_lt s.works_asked e.shape.works_asked || nat_lt 0 (length (posts c e))) (whole_reply w (asks c) r)) is
