-- What the objects in memory are: lists of bytes, the calls that are to fail, and the counts of calls and failures.
use Rattle.std.specs.Prelude.{◌≡◌, ℕ, String, Vec, string_bytes, All, map, List, [], Option, option_map, unwrap_or, find, bytes_eq, Result, Ok, Err, Contains}
use Rattle.std.specs.declared.alloc.Global.{Global}
use Rattle.exr_base.specs.declared.refusal.Refusal.{Refusal}
use Rattle.exr_base.specs.declared.refusal.Refusal.TheVariants as refusal
use Rattle.exr_outside.specs.Count.{one_more}

-- one kind of call: the numbers of those that are to fail, and how many were made
pub record CallState : Type 0 where
  pub fails : List ℕ
  pub made : ℕ

-- the next call is one that is to fail
abbrev pub IsNamed : CallState → Type 0
IsNamed calls = Contains calls.fails calls.made

-- no call is named as one that is to fail
abbrev pub IsUnnamed : CallState → Type 0
IsUnnamed calls = calls.fails ≡ []

-- the calls after one more
abbrev pub counted : CallState → CallState
counted calls = record calls { made = one_more calls.made }

-- the count of failures after a call
abbrev pub faults_after : {T E : Type 0} → Result T E → ℕ → ℕ
faults_after (Ok x) faults = faults
faults_after (Err e) faults = one_more faults

-- a call that may run out of memory fails just where the fact holds
abbrev pub FailsWhere : {T F : Type 0} → Result T (Refusal F) → Type 0 → Type 0
FailsWhere (Ok x) P = ¬ P
FailsWhere (Err (refusal.Fault f)) P = P
FailsWhere (Err refusal.NoMemory) P = Unit {0}

-- the count of failures after a call that may run out of memory
abbrev pub failures_after : {T F : Type 0} → Result T (Refusal F) → ℕ → ℕ
failures_after (Ok x) failures = failures
failures_after (Err (refusal.Fault f)) failures = one_more failures
failures_after (Err refusal.NoMemory) failures = failures

-- a source in memory
pub record MemSourceState : Type 0 where
  pub name : List ℕ
  pub bytes : List ℕ
  pub len_calls : CallState
  pub read_calls : CallState
  pub faults : ℕ

-- a source of this name and these bytes, with the calls that are to fail, before any call
abbrev pub new_source : List ℕ → List ℕ → List ℕ → List ℕ → MemSourceState
new_source name bytes lens reads = record {
  name = name;
  bytes = bytes;
  len_calls = record { fails = lens; made = 0 };
  read_calls = record { fails = reads; made = 0 };
  faults = 0;
}

-- a sink in memory
pub record MemSinkState : Type 0 where
  pub name : List ℕ
  pub bytes : List ℕ
  -- how many bytes it may hold
  pub room : ℕ
  pub append_calls : CallState
  pub write_calls : CallState
  pub faults : ℕ

-- a sink of this name and room that holds nothing, with the calls that are to fail, before any call
abbrev pub new_sink : List ℕ → ℕ → List ℕ → List ℕ → MemSinkState
new_sink name room appends writes = record {
  name = name;
  bytes = [];
  room = room;
  append_calls = record { fails = appends; made = 0 };
  write_calls = record { fails = writes; made = 0 };
  faults = 0;
}

-- files as pairs of a name and bytes
abbrev pub named_files : List (String Global × Vec ℕ Global) → List (List ℕ × List ℕ)
named_files files = map (λ file. (string_bytes file.0, file.1.items)) files

-- each file has the bytes for which its name stands
abbrev pub AreOf : (List ℕ → List ℕ) → List (List ℕ × List ℕ) → Type 0
AreOf bytes_of files = All (λ file. file.1 ≡ bytes_of file.0) files

-- the bytes of the first file of this name, by pairs of a name and bytes
abbrev pub file_of : List (List ℕ × List ℕ) → List ℕ → Option (List ℕ)
file_of files name = option_map (λ file. file.1) (find (λ file. bytes_eq file.0 name) files)

-- the same, and no bytes where there is no such file
abbrev pub bytes_under : List (List ℕ × List ℕ) → List ℕ → List ℕ
bytes_under files name = unwrap_or (file_of files name) []

-- files in memory
pub record MemFilesState : Type 0 where
  -- what there is to open, by name
  pub files : List (List ℕ × List ℕ)
  -- the room of each sink
  pub room : ℕ
  pub open_calls : CallState
  pub create_calls : CallState
  -- the calls that are to fail of each source, and of each sink
  pub lens : List ℕ
  pub reads : List ℕ
  pub appends : List ℕ
  pub writes : List ℕ
  -- the names asked, and the sinks given back
  pub opened : List (List ℕ)
  pub created : List (List ℕ)
  pub kept : List (List ℕ × List ℕ)
  pub read_faults : ℕ
  pub write_faults : ℕ
