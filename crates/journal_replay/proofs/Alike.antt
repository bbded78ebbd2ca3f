-- Items that compare as equal are equal.
use Rattle.std.proofs.Common.{◌≡◌, Bool, true, false, ◌&&◌, refl, ap}
use Rattle.std.specs.Bool.{Decides}
use Rattle.std.proofs.lemmas.Bool.Decides.{Decides-eqb}
use Rattle.std.proofs.lemmas.Slice.Eq.{bytes_eq-Decides}
use denote.Enum.Bare.{sameb, same_true, true_same}
use lib.Dec.{eqb}
use lib.Pointwise.{pointwise}
use Rattle.obj_id.specs.declared.commands.OwnItem.{OwnItem}
use Rattle.obj_id.specs.declared.commands.GrantedItem.{GrantedItem}
use Rattle.obj_id.specs.declared.ids.ObjectId.{ObjectId}
use Rattle.obj_id.specs.contracts.commands.CopyState.{the_type as copy_state}
use Rattle.obj_id.specs.contracts.commands.Kind.{the_type as kind}

first : (a b : Bool) → (a && b) ≡ true → a ≡ true
first true b h = refl
first false b h = absurd cc

second : (a b : Bool) → (a && b) ≡ true → b ≡ true
second true b h = h
second false b h = absurd cc

all : (a b : Bool) → a ≡ true → b ≡ true → (a && b) ≡ true
all true b h i = i
all false b h i = absurd cc

abbrev eq_id : ObjectId → ObjectId → Bool
eq_id x y = pointwise eqb x.task.0 y.task.0 && (eqb x.job.0 y.job.0 && eqb x.index y.index)

id-Decides : (x y : ObjectId) → Decides (eq_id x y) (x ≡ y)
id-Decides x y = (
  λ h.
      let task = (bytes_eq-Decides x.task.0 y.task.0).0 (first _ _ h) in
      let job = (Decides-eqb x.job.0 y.job.0).0 (first _ _ (second _ _ h)) in
      let index = (Decides-eqb x.index y.index).0 (second _ _ (second _ _ h)) in
      λ i. record { task = record { 0 = task i }; job = record { 0 = job i }; index = index i },
  λ e.
      all _ _ ((bytes_eq-Decides x.task.0 y.task.0).1 (ap (λ (p : ObjectId). p.task.0) e))
      (all _ _ ((Decides-eqb x.job.0 y.job.0).1 (ap (λ (p : ObjectId). p.job.0) e)) ((Decides-eqb x.index y.index).1 (ap (λ (p : ObjectId). p.index) e))),
)

abbrev pub eq_own : OwnItem → OwnItem → Bool
eq_own x y = eq_id x.id y.id && (sameb copy_state x.state y.state && (sameb kind x.kind y.kind && eqb x.length y.length))

pub own-Decides : (x y : OwnItem) → Decides (eq_own x y) (x ≡ y)
own-Decides x y = (
  λ h.
      let id = (id-Decides x.id y.id).0 (first _ _ h) in
      let state = same_true copy_state tt x.state y.state (first _ _ (second _ _ h)) in
      let rest : (sameb kind x.kind y.kind && eqb x.length y.length) ≡ true = second (sameb copy_state x.state y.state) _ (second (eq_id x.id y.id) _ h) in
      let kinds = same_true kind tt x.kind y.kind (first _ _ rest) in
      let length = (Decides-eqb x.length y.length).0 (second _ _ rest) in
      λ i. record { id = id i; state = state i; kind = kinds i; length = length i },
  λ e.
      all _ _ ((id-Decides x.id y.id).1 (ap (λ (p : OwnItem). p.id) e))
      (all _ _ (true_same copy_state x.state y.state (ap (λ (p : OwnItem). p.state) e))
      (all _ _ (true_same kind x.kind y.kind (ap (λ (p : OwnItem). p.kind) e)) ((Decides-eqb x.length y.length).1 (ap (λ (p : OwnItem). p.length) e)))),
)

abbrev pub eq_granted : GrantedItem → GrantedItem → Bool
eq_granted x y = eq_id x.id y.id && (eqb x.length y.length && eqb x.depth y.depth)

pub granted-Decides : (x y : GrantedItem) → Decides (eq_granted x y) (x ≡ y)
granted-Decides x y = (
  λ h.
      let id = (id-Decides x.id y.id).0 (first _ _ h) in
      let length = (Decides-eqb x.length y.length).0 (first _ _ (second _ _ h)) in
      let depth = (Decides-eqb x.depth y.depth).0 (second _ _ (second _ _ h)) in
      λ i. record { id = id i; length = length i; depth = depth i },
  λ e.
      all _ _ ((id-Decides x.id y.id).1 (ap (λ (p : GrantedItem). p.id) e))
      (all _ _ ((Decides-eqb x.length y.length).1 (ap (λ (p : GrantedItem). p.length) e)) ((Decides-eqb x.depth y.depth).1 (ap (λ (p : GrantedItem). p.depth) e))),
)
