-- Whether a reader has met a fault.
use Rattle.std.proofs.Common.{◌≡◌, ◌≢◌, ℕ, Bool, true, false, List, [], ◌∷◌, ◌++◌, refl, sym, ap, ◌∙◌, append-nil}
use Rattle.store_facts.proofs.Tests.{true_false}
use Rattle.private_store.specs.rules.Frames.{End, clean, mid_frame, malformed, stopped, stream_of}
use Rattle.wire_frames.specs.Heads.{IsPart, cut_end}
use Rattle.wire_frames.specs.Reading.{Reading, unfinished, failed, answer_of, continued, fed, is_fault, reading_after, reading_at, reading_of}
use Rattle.wire_frames.proofs.Pieces.{IsKept, IsKept-reading_after}
use Rattle.wire_frames.proofs.Streams.{stream_of-part}

cut_is_sound : (bytes : List ℕ) → is_fault (answer_of (stopped bytes (cut_end bytes))) ≡ false
cut_is_sound [] = refl
cut_is_sound (b ∷ bs) = refl

pub fault_told : (failed : Bool) (rest : List ℕ) → IsPart rest → failed ≡ is_fault (fed (reading_of failed rest) []).answer
fault_told true rest part = refl
fault_told false rest part =
    sym (ap (λ b. is_fault (answer_of (stream_of b))) (append-nil rest) ∙ ap (λ s. is_fault (answer_of s)) (stream_of-part rest part) ∙ cut_is_sound rest)

-- ---- what a reader that was fed says of its stream

fault_at : (end : End) (rest : List ℕ) → IsKept (reading_at end rest) → is_fault (fed (reading_at end rest) []).answer ≡ true → end ≡ malformed
fault_at clean rest part h = true_false (fault_told false rest part ∙ h)
fault_at mid_frame rest part h = true_false (fault_told false rest part ∙ h)
fault_at malformed rest part h = refl

sound_at : (end : End) (rest : List ℕ) → is_fault (fed (reading_at end rest) []).answer ≡ false → end ≢ malformed
sound_at clean rest h = λ e. cc
sound_at mid_frame rest h = λ e. cc
sound_at malformed rest h = λ e. cc

pub fault_met : (reading : Reading) (piece : List ℕ) → is_fault (fed (reading_after (continued reading piece)) []).answer ≡ true → (continued reading piece).end ≡ malformed
fault_met (unfinished bytes) piece h = let s = stream_of (bytes ++ piece) in fault_at s.end s.rest (IsKept-reading_after (bytes ++ piece)) h
fault_met failed piece h = refl

pub no_fault_met : (reading : Reading) (piece : List ℕ) → is_fault (fed (reading_after (continued reading piece)) []).answer ≡ false → (continued reading piece).end ≢ malformed
no_fault_met reading piece h = sound_at (continued reading piece).end (continued reading piece).rest h
