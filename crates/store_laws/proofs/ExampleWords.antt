-- The words that worked examples are written in: a step of a schedule with its answer, as a line.
use Rattle.std.specs.Prelude.{ℕ, Bool, List, [], ◌∷◌, ◌++◌, Option, replicate}
use Rattle.obj_id.specs.declared.ids.TaskNo.{TaskNo}
use Rattle.obj_id.specs.declared.ids.JobNo.{JobNo}
use Rattle.obj_id.specs.declared.ids.ObjectId.{ObjectId}
use Rattle.obj_id.specs.declared.commands.Command.{Command}
use Rattle.obj_id.specs.declared.commands.Reply.{Reply}
use Rattle.obj_id.specs.declared.commands.Reply.TheVariants as reply
use Rattle.obj_id.specs.declared.messages.Endpoint.{Endpoint}
use Rattle.obj_id.specs.declared.works.WorkKind.{WorkKind}
use Rattle.obj_id.specs.declared.works.DeviceAnswer.{DeviceAnswer}
use Rattle.private_store.specs.declared.schedules.Event.TheVariants as event
use Rattle.private_store.specs.declared.schedules.Step.TheVariants.{At, Deliver}
use Rattle.private_store.specs.declared.schedules.StepAnswer.{StepAnswer}
use Rattle.private_store.specs.declared.schedules.StepAnswer.TheVariants.{Response}
use Rattle.private_store.specs.declared.schedules.Traced.{Traced}

abbrev pub zeros : ℕ → List ℕ
zeros n = replicate n 0

-- a task, and the objects of a job, by small numbers
abbrev pub task : ℕ → TaskNo
task n = record { 0 = zeros 19 ++ n ∷ [] }

abbrev pub job : ℕ → JobNo
job n = record { 0 = n }

abbrev pub object : ℕ → ℕ → ℕ → ObjectId
object j n index = record { task = task n; job = job j; index = index }

abbrev pub admit : ℕ → ℕ → ℕ → ℕ → Reply (List ℕ) → Traced
admit node j window device response =
    record { step = At node (event.Admit (job j) (record { window = window; device = device }) (record { 0 = zeros 32 })); answer = Response response }

abbrev pub quota : ℕ → ℕ → ℕ → ℕ → Reply (List ℕ) → Traced
quota node j window device response =
    record { step = At node (event.Requota (job j) (record { window = window; device = device })); answer = Response response }

abbrev pub end : ℕ → ℕ → Reply (List ℕ) → Traced
end node j response = record { step = At node (event.JobEnd (job j)); answer = Response response }

abbrev pub call : ℕ → ℕ → ℕ → Command (List ℕ) → Reply (List ℕ) → Traced
call node j session c response = record { step = At node (event.Call (job j) session c); answer = Response response }

abbrev pub take : ℕ → Reply (List ℕ) → Traced
take node response = record { step = At node event.Take; answer = Response response }

-- a work: job, number, kind, the number of its key, the object's length and a write's bytes
abbrev pub work : ℕ → ℕ → WorkKind → ℕ → ℕ → Option (List ℕ) → Reply (List ℕ)
work j number kind key length payload =
    reply.Work (record { job = job j; number = number; kind = kind; key = record { job = job j; number = key }; length = length; payload = payload })

abbrev pub finish : ℕ → ℕ → ℕ → DeviceAnswer → Reply (List ℕ) → Traced
finish node j number a response = record { step = At node (event.Finish (job j) number a); answer = Response response }

abbrev pub deliver : ℕ → Endpoint → Endpoint → ℕ → Bool → StepAnswer → Traced
deliver j from to m damage response = record { step = Deliver (job j) from to m damage; answer = response }
