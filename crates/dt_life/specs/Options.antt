-- A consumer's options, and what a line sets of them. Guide, Options and Tunables; Buffers and Buffering.
use Rattle.std.specs.Prelude.{ℕ, ◌&&◌, Bool, false, true, List, [], ◌∷◌, Option, Some, None, codes, find, nat_le, option_and_then, if◌then◌else◌}
use Rattle.std.specs.Option.{option_map}
use Rattle.std.specs.Str.{bytes_eq}
use Rattle.std.specs.String.{string_bytes}
use Rattle.dt_aggstore.specs.Limits.{aggsize_max}
use Rattle.dt_buffer.specs.Limits.{buffer_size_max}
use Rattle.dt_buffer.specs.declared.policy.Policy.{Policy}
use Rattle.dt_buffer.specs.declared.policy.Policy.TheVariants.{Switch, Fill, Ring}
use Rattle.dt_life.specs.declared.command.OptionValue.{OptionValue}
use Rattle.dt_life.specs.declared.command.OptionValue.TheVariants.{Number, Text, Other}
use Rattle.dt_locals.specs.Limits.{dynvarsize_max, dynvarsize_min}
use Rattle.dt_speculation.specs.Limits.{nspec_max, specsize_max, specsize_min}
use Rattle.dt_life.specs.Limits.{aggsize_default, aggsize_min, buffer_size_default, buffer_size_min, history_default, history_max, history_min}
use Rattle.dt_life.specs.Limits.{dynvarsize_default, nspec_default, nspec_min, specsize_default}

-- The options: how many bytes a principal buffer has, by which policy it keeps records, how many bytes the entries of
-- aggregations may cost on each processor, after how many seen firings tracing ends, how many bytes the thread-local variables
-- that aren't 0 may cost, how many speculations there may be, and how many bytes each has on each processor.
pub record OptionsForm : Type 0 where
  pub bufsize : ℕ
  pub bufpolicy : Policy
  pub aggsize : ℕ
  pub histsize : ℕ
  pub dynvarsize : ℕ
  pub nspec : ℕ
  pub specsize : ℕ

-- as they are where no line sets them
abbrev pub default_options : OptionsForm
default_options = record {
  bufsize = buffer_size_default;
  bufpolicy = Switch;
  aggsize = aggsize_default;
  histsize = history_default;
  dynvarsize = dynvarsize_default;
  nspec = nspec_default;
  specsize = specsize_default;
}

-- one option with its new value
pub data Setting : Type 0 where
  size : ℕ → Setting
  policy : Policy → Setting
  entries : ℕ → Setting
  history : ℕ → Setting
  variables : ℕ → Setting
  speculations : ℕ → Setting
  parts : ℕ → Setting

abbrev pub with_setting : OptionsForm → Setting → OptionsForm
with_setting o (size n) = record o { bufsize = n }
with_setting o (policy p) = record o { bufpolicy = p }
with_setting o (entries n) = record o { aggsize = n }
with_setting o (history n) = record o { histsize = n }
with_setting o (variables n) = record o { dynvarsize = n }
with_setting o (speculations n) = record o { nspec = n }
with_setting o (parts n) = record o { specsize = n }

-- from the least to the most
abbrev pub in_range : ℕ → ℕ → ℕ → Bool
in_range least most n = nat_le least n && nat_le n most

-- a policy by its word
abbrev pub policy_of : List ℕ → Option Policy
policy_of word =
    if bytes_eq word (codes "switch") then Some Switch else
    (if bytes_eq word (codes "fill") then Some Fill else
    (if bytes_eq word (codes "ring") then Some Ring else None))

-- the options that are numbers: each name, with the least and the most that it may be set to, and what that sets
pub record NumberOption : Type 0 where
  pub name : List ℕ
  pub least : ℕ
  pub most : ℕ
  pub sets : ℕ → Setting

abbrev pub number_option : List ℕ → ℕ → ℕ → (ℕ → Setting) → NumberOption
number_option name least most sets = record { name = name; least = least; most = most; sets = sets }

abbrev pub number_options : List NumberOption
number_options =
    number_option (codes "bufsize") buffer_size_min buffer_size_max size
    ∷ number_option (codes "aggsize") aggsize_min aggsize_max entries
    ∷ number_option (codes "histsize") history_min history_max history
    ∷ number_option (codes "dynvarsize") dynvarsize_min dynvarsize_max variables
    ∷ number_option (codes "nspec") nspec_min nspec_max speculations
    ∷ number_option (codes "specsize") specsize_min specsize_max parts ∷ []

abbrev pub number_set : List ℕ → ℕ → Option Setting
number_set name n = option_and_then
    (λ (one : NumberOption). if in_range one.least one.most n then Some (one.sets n) else None)
    (find (λ (one : NumberOption). bytes_eq name one.name) number_options)

-- what a name and a value set: nothing where there is no such option, or the value isn't one of it
abbrev pub setting_of : List ℕ → OptionValue → Option Setting
setting_of name (Number n) = number_set name n
setting_of name (Text text) =
    if bytes_eq name (codes "bufpolicy") then option_map policy (policy_of (string_bytes text)) else None
setting_of name Other = None

-- the policy is fill, and it is ring
abbrev pub is_fill : Policy → Bool
is_fill Fill = true
is_fill _ = false

abbrev pub is_ring : Policy → Bool
is_ring Ring = true
is_ring _ = false
