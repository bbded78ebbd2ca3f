use Rattle.std.proofs.Common.{rules, get_or, ◌<◌, ℕ, ◌++◌, subst, List, ap, length, ◌≡◌}
use Rattle.obj_id.proofs.IdBytes.{bytes-front, length-task}
use Rattle.obj_id.proofs.ids.ObjectId.to_bytes.Goals as goal

pub returns-clause-id : goal.returns-clause-id
returns-clause-id c =
    let are_bytes : (i : ℕ) → get_or c.joined.result i 0 < 256 = search rules in
    let are_bytes : (i : ℕ) → get_or (c.self.inside.task.0 ++ c.to_be_bytes.result ++ c.to_be_bytes-2.result) i 0 < 256 =
    let P : List ℕ → Type 0 = λ xs. (i : ℕ) → get_or xs i 0 < 256 in subst P c.joined.ensures are_bytes in
    let long : List ℕ → Type 0 = λ xs. length xs ≡ 28 in
    rw (← c.self.view_is) (record {
      task_length = length-task _ _ _ (subst long c.joined.ensures (search rules)) (ap length c.to_be_bytes.ensures) (ap length c.to_be_bytes-2.ensures);
      task_bytes = bytes-front _ _ (bytes-front _ _ are_bytes);
      job_positive = c.self.invariant.0;
      job_fits = search rules;
      index_positive = c.self.invariant.1;
      index_fits = search rules;
    })
