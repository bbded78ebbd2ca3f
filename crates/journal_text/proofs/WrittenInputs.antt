-- The fields that are written of an input spell it.
use Rattle.std.proofs.Common.{◌≡◌, ℕ, Bool, true, false, List, [], ◌∷◌, ◌++◌, map, refl, sym, ap, subst, ◌∙◌, decimal, codes, append_assoc}
use Rattle.hex.specs.Hex.{encode_lower}
use Rattle.obj_id.specs.Texts.{id_text}
use Rattle.obj_id.specs.declared.commands.Command.{Command}
use Rattle.obj_id.specs.declared.commands.Command.TheVariants as command
use Rattle.obj_id.specs.declared.commands.Kind.TheVariants.{Primary, Secondary}
use Rattle.obj_id.specs.declared.messages.Location.{Location}
use Rattle.private_store.specs.declared.inputs.ChunkVerdict.{ChunkVerdict}
use Rattle.private_store.specs.declared.inputs.ChunkVerdict.TheVariants as chunk
use Rattle.private_store.specs.declared.inputs.WorkVerdict.{WorkVerdict}
use Rattle.private_store.specs.declared.inputs.WorkVerdict.TheVariants as work
use Rattle.command_kinds.specs.declared.command_kind.CommandKind.TheVariants as kinds
use Rattle.schedule_text.specs.declared.words.Word.TheVariants as word
use Rattle.journal_text.specs.declared.entry.LineInput.{LineInput}
use Rattle.journal_text.specs.declared.entry.LineInput.TheVariants as input
use Rattle.journal_text.specs.declared.entry.Version.TheVariants.{Three}
use Rattle.journal_text.specs.declared.words.InputWord.TheVariants as input_word
use Rattle.journal_text.specs.Calls.{IsCommandWithoutPayload}
use Rattle.journal_text.specs.Each.{IsEach}
use Rattle.journal_text.specs.Inputs.{IsInput}
use Rattle.journal_text.specs.Locations.{IsLocation, IsLocationParts, parts_of}
use Rattle.journal_text.specs.Printing.{command_fields, input_fields, location_field}
use Rattle.journal_text.specs.Words.{chunk_verdict_text, match_text, work_verdict_text}
use Rattle.journal_text.specs.Writable.{FitLocations, FitsCommand, FitsInput, FitsLocation}
use Rattle.journal_text.proofs.WrittenFields.{long, number, object, plain32, plain_count, positive, task_field}
use Rattle.journal_text.proofs.PlainFields.{AllFields, AllFields-plain, AllPlain, Field, Field-append, Field-plain, Plain, Plain-append, Plain-decimal, Plain-encode_lower, Plain-id_text, Plain-task_text, cut_part, last_part}

-- ---- commands

module _ (job : ℕ) where
  pub IsCommandWithoutPayload-written : (c : Command ℕ) → FitsCommand c → IsCommandWithoutPayload job (command_fields job c) c
  IsCommandWithoutPayload-written (command.Create id Primary n) h = record { word = word.Of kinds.Create; named = refl; spelled = record { part = (id, n); spelled = (object job id h.0, number n h.1); made = refl } }
  IsCommandWithoutPayload-written (command.Create id Secondary n) h = record { word = word.Copy; named = refl; spelled = record { part = (id, n); spelled = (object job id h.0, number n h.1); made = refl } }
  IsCommandWithoutPayload-written (command.Write id offset count) h = record { word = word.Of kinds.Write; named = refl; spelled = record { part = ((id, offset), count); spelled = ((object job id h.0, number offset h.1), record { fits = h.2; spelled = refl }); made = refl } }
  IsCommandWithoutPayload-written (command.Seal id) h = record { word = word.Of kinds.Seal; named = refl; spelled = record { part = id; spelled = object job id h; made = refl } }
  IsCommandWithoutPayload-written (command.Get id) h = record { word = word.Of kinds.Get; named = refl; spelled = record { part = id; spelled = object job id h; made = refl } }
  IsCommandWithoutPayload-written (command.Read id offset count) h = record { word = word.Of kinds.Read; named = refl; spelled = record { part = ((id, offset), count); spelled = ((object job id h.0, number offset h.1), number count h.2); made = refl } }
  IsCommandWithoutPayload-written (command.Release id) h = record { word = word.Of kinds.Release; named = refl; spelled = record { part = id; spelled = object job id h; made = refl } }
  IsCommandWithoutPayload-written (command.Unpin id task) h = record { word = word.Of kinds.Unpin; named = refl; spelled = record { part = (id, task); spelled = (object job id h.0, task_field task h.1); made = refl } }
  IsCommandWithoutPayload-written (command.Borrow id task) h = record { word = word.Of kinds.Borrow; named = refl; spelled = record { part = (id, task); spelled = (object job id h.0, task_field task h.1); made = refl } }
  IsCommandWithoutPayload-written (command.GiveUp id task) h = record { word = word.Of kinds.GiveUp; named = refl; spelled = record { part = (id, task); spelled = (object job id h.0, task_field task h.1); made = refl } }
  IsCommandWithoutPayload-written (command.Delete id) h = record { word = word.Of kinds.Delete; named = refl; spelled = record { part = id; spelled = object job id h; made = refl } }
  IsCommandWithoutPayload-written (command.EndTask task) h = record { word = word.Of kinds.EndTask; named = refl; spelled = record { part = task; spelled = task_field task h; made = refl } }
  IsCommandWithoutPayload-written (command.Grant id target) h = record { word = word.Of kinds.Grant; named = refl; spelled = record { part = (id, target); spelled = (object job id h.0, number target.0 h.1); made = refl } }
  IsCommandWithoutPayload-written (command.Withdraw id target) h = record { word = word.Of kinds.Withdraw; named = refl; spelled = record { part = (id, target); spelled = (object job id h.0, number target.0 h.1); made = refl } }
  IsCommandWithoutPayload-written (command.Peek id offset count) h = record { word = word.Of kinds.Peek; named = refl; spelled = record { part = ((id, offset), count); spelled = ((object job id h.0, number offset h.1), number count h.2); made = refl } }
  IsCommandWithoutPayload-written command.List h = record { word = word.Of kinds.List; named = refl; spelled = record { none = refl; made = refl } }
  IsCommandWithoutPayload-written command.Usage h = record { word = word.Of kinds.Usage; named = refl; spelled = record { none = refl; made = refl } }
  IsCommandWithoutPayload-written command.Leave h = record { word = word.Of kinds.Leave; named = refl; spelled = record { none = refl; made = refl } }

  AllPlain-command : (c : Command ℕ) → FitsCommand c → AllPlain (command_fields job c)
  AllPlain-command (command.Create id Primary n) h = (refl, (Plain-id_text job id h.0, (plain32 n h.1, tt)))
  AllPlain-command (command.Create id Secondary n) h = (refl, (Plain-id_text job id h.0, (plain32 n h.1, tt)))
  AllPlain-command (command.Write id offset count) h = (refl, (Plain-id_text job id h.0, (plain32 offset h.1, (plain_count count h.2, tt))))
  AllPlain-command (command.Seal id) h = (refl, (Plain-id_text job id h, tt))
  AllPlain-command (command.Get id) h = (refl, (Plain-id_text job id h, tt))
  AllPlain-command (command.Read id offset count) h = (refl, (Plain-id_text job id h.0, (plain32 offset h.1, (plain32 count h.2, tt))))
  AllPlain-command (command.Release id) h = (refl, (Plain-id_text job id h, tt))
  AllPlain-command (command.Unpin id task) h = (refl, (Plain-id_text job id h.0, (Plain-task_text task h.1, tt)))
  AllPlain-command (command.Borrow id task) h = (refl, (Plain-id_text job id h.0, (Plain-task_text task h.1, tt)))
  AllPlain-command (command.GiveUp id task) h = (refl, (Plain-id_text job id h.0, (Plain-task_text task h.1, tt)))
  AllPlain-command (command.Delete id) h = (refl, (Plain-id_text job id h, tt))
  AllPlain-command (command.EndTask task) h = (refl, (Plain-task_text task h, tt))
  AllPlain-command (command.Grant id target) h = (refl, (Plain-id_text job id h.0, (plain32 target.0 h.1, tt)))
  AllPlain-command (command.Withdraw id target) h = (refl, (Plain-id_text job id h.0, (plain32 target.0 h.1, tt)))
  AllPlain-command (command.Peek id offset count) h = (refl, (Plain-id_text job id h.0, (plain32 offset h.1, (plain32 count h.2, tt))))
  AllPlain-command command.List h = (refl, tt)
  AllPlain-command command.Usage h = (refl, tt)
  AllPlain-command command.Leave h = (refl, tt)

-- ---- a directory's entries

-- its parts
location_parts : (x : Location) → FitsLocation x → parts_of (location_field x) ≡ decimal x.node ∷ decimal x.length ∷ encode_lower x.digest.0 ∷ []
location_parts x h =
    let n = decimal x.node in
    let m = decimal x.length in
    let hex = encode_lower x.digest.0 in
    ap parts_of (append_assoc (n ++ codes ":" ++ m) (codes ":") hex ∙ append_assoc (n ++ codes ":") m (58 ∷ hex) ∙ append_assoc n (codes ":") (m ++ (58 ∷ hex)))
    ∙ cut_part n (m ++ (58 ∷ hex)) (plain32 x.node h.0)
    ∙ ap (λ rest. n ∷ rest) (cut_part m hex (plain32 x.length h.1) ∙ ap (λ rest. m ∷ rest) (last_part hex (Plain-encode_lower x.digest.0)))

IsLocation-written : (x : Location) → FitsLocation x → IsLocation (location_field x) x
IsLocation-written x h =
    let P : List (List ℕ) → Type 0 = λ ps. IsLocationParts ps x in
    subst P (sym (location_parts x h)) (record { at = number x.node h.0; long = number x.length h.1; digested = record { is_digest = h.2; spelled = refl } })

IsEach-locations : (xs : List Location) → FitLocations xs → IsEach IsLocation (map location_field xs) xs
IsEach-locations [] h = tt
IsEach-locations (x ∷ xs) h = (IsLocation-written x h.0, IsEach-locations xs h.1)

-- an entry's field has colons, but no space and no equals sign
Field-location : (x : Location) → FitsLocation x → Field (location_field x)
Field-location x h =
    let n = decimal x.node in
    let m = decimal x.length in
    let hex = encode_lower x.digest.0 in
    Field-append (n ++ codes ":" ++ m ++ codes ":") hex
    (Field-append (n ++ codes ":" ++ m) (codes ":")
    (Field-append (n ++ codes ":") m (Field-append n (codes ":") (Field-plain n (plain32 x.node h.0)) refl) (Field-plain m (plain32 x.length h.1))) refl)
    (Field-plain hex (Plain-encode_lower x.digest.0))

AllFields-locations : (xs : List Location) → FitLocations xs → AllFields (map location_field xs)
AllFields-locations [] h = tt
AllFields-locations (x ∷ xs) h = (Field-location x h.0, AllFields-locations xs h.1)

-- ---- inputs

plain_work : (verdict : WorkVerdict) → Plain (work_verdict_text verdict)
plain_work work.Fine = refl
plain_work work.Failed = refl
plain_work work.Damaged = refl

plain_chunk : (verdict : ChunkVerdict) → Plain (chunk_verdict_text verdict)
plain_chunk chunk.Part = refl
plain_chunk chunk.Whole = refl
plain_chunk chunk.Damaged = refl
plain_chunk chunk.Ignored = refl

plain_match : (matched : Bool) → Plain (match_text matched)
plain_match true = refl
plain_match false = refl

module _ (job : ℕ) where
  pub IsInput-written : (x : LineInput) → FitsInput x → IsInput Three job (input_fields job x) x
  IsInput-written (input.Begin quota) h = record { word = input_word.Begin; named = refl; spelled = record { part = quota; spelled = (long quota.window h.0, long quota.device h.1); made = refl } }
  IsInput-written (input.Requota quota) h = record { word = input_word.Quota; named = refl; spelled = record { part = quota; spelled = (long quota.window h.0, long quota.device h.1); made = refl } }
  IsInput-written input.End h = record { word = input_word.End; named = refl; spelled = record { none = refl; made = refl } }
  IsInput-written (input.Call session c) h = record { part = (session, c); spelled = (record { fits = h.0; spelled = refl }, IsCommandWithoutPayload-written job c h.1); made = refl }
  IsInput-written (input.Answer n verdict) h = record { word = input_word.Answer; named = refl; spelled = record { part = (n, verdict); spelled = (long n h, refl); made = refl } }
  IsInput-written (input.Located id n entries) h = record { word = input_word.Located; named = refl; spelled = record { part = ((id, n), entries); spelled = ((object job id h.0, long n h.1), IsEach-locations entries h.2); made = refl } }
  IsInput-written (input.Chunk id n index from verdict) h = record { word = input_word.Chunk; named = refl; spelled = record { part = ((id, n), ((index, from), verdict)); spelled = ((object job id h.0, long n h.1), record { indexed = number index h.2; sent = number from h.3; judged = refl }); made = refl } }
  IsInput-written (input.Pull id n matched) h = record { word = input_word.Pull; named = refl; spelled = record { part = ((id, n), matched); spelled = ((object job id h.0, long n h.1), refl); made = refl } }
  IsInput-written (input.NotHere id n from) h = record { word = input_word.NotHere; named = refl; spelled = record { part = ((id, n), from); spelled = ((object job id h.0, long n h.1), number from h.2); made = refl } }
  IsInput-written (input.Received id n grantor depth) h = record { word = input_word.Received; named = refl; spelled = record { part = ((id, n), (grantor, depth)); spelled = ((object job id h.0, number n h.1), (positive grantor.0 h.2, positive depth h.3)); made = refl } }
  IsInput-written (input.Withdrawn id grantor depth) h = record { word = input_word.Withdrawn; named = refl; spelled = record { part = (id, (grantor, depth)); spelled = (object job id h.0, (positive grantor.0 h.1, positive depth h.2)); made = refl } }

  pub AllFields-input : (x : LineInput) → FitsInput x → AllFields (input_fields job x)
  AllFields-input (input.Begin quota) h = AllFields-plain (input_fields job (input.Begin quota)) (refl, (Plain-decimal quota.window h.0, (Plain-decimal quota.device h.1, tt)))
  AllFields-input (input.Requota quota) h = AllFields-plain (input_fields job (input.Requota quota)) (refl, (Plain-decimal quota.window h.0, (Plain-decimal quota.device h.1, tt)))
  AllFields-input input.End h = (refl, tt)
  AllFields-input (input.Call session c) h =
      AllFields-plain ((codes "s" ++ decimal session) ∷ command_fields job c) (Plain-append (codes "s") (decimal session) refl (plain32 session h.0), AllPlain-command job c h.1)
  AllFields-input (input.Answer n verdict) h = AllFields-plain (input_fields job (input.Answer n verdict)) (refl, (Plain-decimal n h, (plain_work verdict, tt)))
  AllFields-input (input.Located id n entries) h = (refl, (Field-plain (id_text job id) (Plain-id_text job id h.0), (Field-plain (decimal n) (Plain-decimal n h.1), AllFields-locations entries h.2)))
  AllFields-input (input.Chunk id n index from verdict) h = AllFields-plain (input_fields job (input.Chunk id n index from verdict)) (refl, (Plain-id_text job id h.0, (Plain-decimal n h.1, (plain32 index h.2, (plain32 from h.3, (plain_chunk verdict, tt))))))
  AllFields-input (input.Pull id n matched) h = AllFields-plain (input_fields job (input.Pull id n matched)) (refl, (Plain-id_text job id h.0, (Plain-decimal n h.1, (plain_match matched, tt))))
  AllFields-input (input.NotHere id n from) h = AllFields-plain (input_fields job (input.NotHere id n from)) (refl, (Plain-id_text job id h.0, (Plain-decimal n h.1, (plain32 from h.2, tt))))
  AllFields-input (input.Received id n grantor depth) h = AllFields-plain (input_fields job (input.Received id n grantor depth)) (refl, (Plain-id_text job id h.0, (plain32 n h.1, (plain32 grantor.0 h.2.1, (plain32 depth h.3.1, tt)))))
  AllFields-input (input.Withdrawn id grantor depth) h = AllFields-plain (input_fields job (input.Withdrawn id grantor depth)) (refl, (Plain-id_text job id h.0, (plain32 grantor.0 h.1.1, (plain32 depth h.2.1, tt))))
