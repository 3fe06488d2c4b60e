-- What the program writes last, and its exit status (defined by this product).
use Rattle.std.specs.Prelude.{◌≡◌, ◌⊎◌, ℕ, if◌then◌else◌, List, [], ◌++◌, map, codes, decimal, encode_utf8_all, Result, Ok, Err}
use Rattle.std.specs.Char.{is_control}
use Rattle.lattice.specs.declared.refusal.Refusal.{Refusal}
use Rattle.lattice.specs.declared.refusal.Refusal.TheVariants.{NoMemory}
use Rattle.lines.specs.Replies.{line_of, ok_line, refusal_text}
use Rattle.serving.specs.declared.session.ServeFault.{ServeFault}
use Rattle.serving.specs.declared.session.ServeFault.TheVariants.{Input, Output}
use Rattle.serving.specs.Outputs.{HasFailed, Leaves, Puts, Stream}

abbrev pub bad_words : List ℕ
bad_words = line_of (codes "mosaic: bad arguments")

abbrev pub fault_line : ServeFault → List ℕ
fault_line Input = line_of (codes "mosaic: input fault")
fault_line Output = line_of (codes "mosaic: output fault")

-- a character of a message: control characters become question marks, so that a message is one line
abbrev pub shown : ℕ → ℕ
shown char = if is_control char then 63 else char

-- A path's text is written as this line.
abbrev pub IsShown : (text line : List ℕ) → Type 0
IsShown text line = (chars : List ℕ) × (encode_utf8_all chars ≡ text) × (line ≡ encode_utf8_all (map shown chars))

-- The program wrote a line about a path, or NoMemory if there was no memory for it.
abbrev pub Tells : (words path : List ℕ) → Stream → Stream → ℕ → Type 0
Tells words path written new status =
    (((line : List ℕ) × IsShown path line × Puts written new (line_of (words ++ line))) ⊎ Puts written new (refusal_text NoMemory)) × (status ≡ 1)

-- The program wrote the refusal's line.
abbrev pub TellsRefusal : Refusal → Stream → Stream → ℕ → Type 0
TellsRefusal r written new status = Puts written new (refusal_text r) × (status ≡ 1)

-- A reply was written whole and flushed, and no call of the output has failed; or a call has failed, and the program
-- tried to write the line about it.
abbrev pub EndsReplying : List ℕ → Stream → Stream → ℕ → Type 0
EndsReplying text written new status =
    (Leaves written new text × (new.failures ≡ 0) × (status ≡ 0))
    ⊎ ((mid : Stream) × Puts written mid text × HasFailed mid × Puts mid new (fault_line Output) × (status ≡ 1))

-- A session is over: all bytes were flushed, or a line names the stream that failed. It names the output only if a
-- write or a flush has failed.
abbrev pub EndsSession : Result (Unit {0}) ServeFault → Stream → Stream → ℕ → Type 0
EndsSession (Ok done) written new status = EndsReplying [] written new status
EndsSession (Err Input) written new status = Puts written new (fault_line Input) × (status ≡ 1)
EndsSession (Err Output) written new status = HasFailed written × Puts written new (fault_line Output) × (status ≡ 1)

-- the line with a number of commands
abbrev pub count_line : ℕ → List ℕ
count_line k = ok_line (decimal k)

-- The program wrote a call's answer: its text or its refusal.
abbrev pub EndsAnswering : {T : Type 0} → (T → List ℕ) → Result T Refusal → Stream → Stream → ℕ → Type 0
EndsAnswering text (Ok value) written new status = EndsReplying (text value) written new status
EndsAnswering text (Err r) written new status = TellsRefusal r written new status
