-- What the operator, the device workers and the links are answered follows from what the two histories have in common.
use Rattle.std.proofs.Common.{◌≡◌, ℕ, Bool, true, false, not, ◌==◌, ◌||◌, List, [], ◌∷◌, length, map, slice_get, find, Option, Some, None, option_map, refl, sym, ap, ◌∙◌}
use Rattle.std.specs.Prelude.{if◌then◌else◌, unwrap_or, nat_le, is_none}
use Rattle.std.specs.Option.{option_map_or, option_and_then}
use Rattle.std.specs.List.{list_any}
use Rattle.std.proofs.lemmas.Bool.{eqb-true}
use Rattle.obj_id.specs.declared.messages.Endpoint.{Endpoint}
use Rattle.obj_id.specs.declared.messages.Endpoint.TheVariants.{Node, Directory}
use Rattle.obj_id.specs.declared.works.Quota.{Quota}
use Rattle.obj_id.specs.declared.works.Work.{Work}
use Rattle.obj_id.specs.declared.works.WorkKind.TheVariants as kind
use Rattle.obj_id.specs.declared.refusals.Refusal.TheVariants.{NotAdmitted, BadId, Exists, BadSize, Full, NoRoom, Stale}
use Rattle.obj_id.specs.declared.commands.Reply.TheVariants as reply
use Rattle.private_store.specs.declared.schedules.Event.TheVariants as event
use Rattle.private_store.specs.declared.schedules.Step.{Step}
use Rattle.private_store.specs.declared.schedules.Step.TheVariants as steps
use Rattle.private_store.specs.declared.schedules.StepAnswer.TheVariants as answer
use Rattle.private_store.specs.declared.schedules.Traced.{Traced}
use Rattle.private_store.specs.rules.Limits.{is_quota, most_live_jobs}
use Rattle.private_store.specs.rules.Tables.{at}
use Rattle.private_store.specs.rules.Extents.{first}
use Rattle.private_store.specs.rules.Copies.{fits_quota}
use Rattle.private_store.specs.rules.Contents.{View, bytes_at}
use Rattle.private_store.specs.rules.Private.{Store, key_of}
use Rattle.private_store.specs.rules.Cluster.{message_at, damaged}
use Rattle.private_store.specs.rules.Trace.{cluster_until}
use Rattle.private_store.specs.rules.Shared.{job_is, ok_unless, admit_answer, store_at, holds_quota, can_widen, requota_answer, waiting, given_of, take_answer, goes_to_live, deliver_answer, shared_answer}
use Rattle.run_laws.proofs.OwnClusters.{part, at_same}
use Rattle.run_laws.proofs.Telling.{SameFor, one_cluster}

module _ (nodes j : ℕ) (a b : List Traced) (same : SameFor nodes j a b) where
  -- what is read of a store's own part is the same
  read_same : {X : Type 0} (f : Option Store → X) (g : Option View → X) → ((o : Option Store) → f o ≡ g (option_map part o)) → (n k : ℕ) → f (store_at nodes n a k) ≡ f (store_at nodes n b k)
  read_same f g reads n k =
      elim (k == j) as (λ t. (k == j) ≡ t → f (store_at nodes n a k) ≡ f (store_at nodes n b k)) [
        | true ↦ λ t. ap (λ C. f (slice_get C.stores n)) (one_cluster nodes j a b same k (eqb-true k j t))
        | false ↦ λ t. reads (store_at nodes n a k) ∙ ap g ((same.parts k t).stores n) ∙ sym (reads (store_at nodes n b k))
      ] refl

  -- ---- the operator

  admit_same : (memory n k : ℕ) (quota : Quota) → admit_answer memory n a k quota ≡ admit_answer memory n b k quota
  admit_same memory n k quota = λ i.
      let lives = same.lives memory n i in
      ok_unless (
      (k == 0, BadId)
      ∷ (not (is_quota quota), BadSize)
      ∷ (same.admissions n k i, Exists)
      ∷ (nat_le most_live_jobs (length lives) || is_none (first (map (λ live. live.window) lives) memory quota.window), NoRoom)
      ∷ [])

  holds_same : (n k : ℕ) (quota : Quota) → holds_quota quota (store_at nodes n a k) ≡ holds_quota quota (store_at nodes n b k)
  holds_same n k quota = read_same (holds_quota quota) (λ o. option_map_or (λ v. fits_quota v.shape quota) o false) reads n k
    where
      reads : (o : Option Store) → holds_quota quota o ≡ option_map_or (λ v. fits_quota v.shape quota) (option_map part o) false
      reads None = refl
      reads (Some s) = refl

  requota_same : (memory n k : ℕ) (quota : Quota) → requota_answer nodes memory n a k quota ≡ requota_answer nodes memory n b k quota
  requota_same memory n k quota = λ i.
      let lives = same.lives memory n i in
      ok_unless (
      (not (list_any (job_is k) lives), NotAdmitted)
      ∷ (not (is_quota quota), BadSize)
      ∷ (not (holds_same n k quota i), Full)
      ∷ (not (can_widen memory k quota.window lives), NoRoom)
      ∷ [])

  -- ---- works

  given_same : (n k number : ℕ) → given_of k number (store_at nodes n a k) ≡ given_of k number (store_at nodes n b k)
  given_same n k number = read_same (given_of k number) read reads n k
    where
      read_view : View → Option (Work (List ℕ))
      read_view v =
          option_and_then (λ w. option_map (λ copy. record {
            job = record { 0 = k };
            number = w.number;
            kind = if w.writes then kind.Write else kind.Read;
            key = key_of k (if w.writes then w.number else unwrap_or copy.backed 0);
            length = copy.length;
            payload = if w.writes then Some (bytes_at v.contents.bytes w.id) else None;
          }) (at v.shape.copies w.id)) (find (λ w. w.number == number) v.shape.works)

      read : Option View → Option (Work (List ℕ))
      read o = option_and_then read_view o

      reads : (o : Option Store) → given_of k number o ≡ read (option_map part o)
      reads None = refl
      reads (Some s) = refl

  take_same : (n : ℕ) → take_answer nodes n a ≡ take_answer nodes n b
  take_same n =
      ap (λ ws. answer.Response (elim ws [
        | [] ↦ reply.NoWork
        | asked ∷ _ ↦ option_map_or reply.Work (given_of asked.job asked.number (store_at nodes n a asked.job)) reply.NoWork
      ])) (same.waits n)
      ∙ elim (waiting nodes n b) as (λ ws. answer.Response (elim ws [
        | [] ↦ reply.NoWork
        | asked ∷ _ ↦ option_map_or reply.Work (given_of asked.job asked.number (store_at nodes n a asked.job)) reply.NoWork
      ]) ≡ answer.Response (elim ws [
        | [] ↦ reply.NoWork
        | asked ∷ _ ↦ option_map_or reply.Work (given_of asked.job asked.number (store_at nodes n b asked.job)) reply.NoWork
      ])) [
        | [] ↦ refl
        | asked ∷ _ ↦ ap (λ o. answer.Response (option_map_or reply.Work o reply.NoWork)) (given_same n asked.job asked.number)
      ]

  -- ---- messages

  message_same : (k : ℕ) (from to : Endpoint) (number : ℕ) → message_at (cluster_until nodes k a) from to number ≡ message_at (cluster_until nodes k b) from to number
  message_same k from to number =
      elim (k == j) as (λ t. (k == j) ≡ t → message_at (cluster_until nodes k a) from to number ≡ message_at (cluster_until nodes k b) from to number) [
        | true ↦ λ t. ap (λ C. message_at C from to number) (one_cluster nodes j a b same k (eqb-true k j t))
        | false ↦ λ t. at_same k (cluster_until nodes k a) (cluster_until nodes k b) (same.parts k t) from to number
      ] refl

  goes_same : (memory k : ℕ) (to : Endpoint) → goes_to_live memory a k to ≡ goes_to_live memory b k to
  goes_same memory k (Node n) = ap (list_any (job_is k)) (same.lives memory n)
  goes_same memory k Directory = refl

  deliver_same : (memory k : ℕ) (from to : Endpoint) (number : ℕ) (damage : Bool) → deliver_answer nodes memory a k from to number damage ≡ deliver_answer nodes memory b k from to number damage
  deliver_same memory k from to number damage = λ i. elim (message_same k from to number i) [
    | None ↦ answer.NoMessage
    | Some message ↦ if goes_same memory k to i then answer.HandedOver (if damage then damaged message else message) else answer.Response (reply.Refused Stale)
  ]

  -- ---- all of them

  pub shared_same : (memory : ℕ) (s : Step) → shared_answer nodes memory a s ≡ shared_answer nodes memory b s
  shared_same memory (steps.At n (event.Admit k quota key)) = ap Some (admit_same memory n k.0 quota)
  shared_same memory (steps.At n (event.Requota k quota)) = ap Some (requota_same memory n k.0 quota)
  shared_same memory (steps.At n (event.JobEnd k)) = ap (λ l. Some (ok_unless ((not (list_any (job_is k.0) l), NotAdmitted) ∷ []))) (same.lives memory n)
  shared_same memory (steps.At n event.Take) = ap Some (take_same n)
  shared_same memory (steps.At n (event.Finish k number x)) = ap (λ o. Some (ok_unless ((not o, Stale) ∷ []))) (same.out n k.0 number)
  shared_same memory (steps.At n (event.Call k session c)) = refl
  shared_same memory (steps.Deliver k from to number damage) = ap Some (deliver_same memory k.0 from to number damage)
