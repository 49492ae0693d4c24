-- The numbers of the rules of the form. `grammar/form.py write` makes this of the grammar.
use Rattle.std.specs.Prelude.{ℕ}

abbrev pub file : ℕ
file = 0

abbrev pub item : ℕ
item = 1

abbrev pub type_body : ℕ
type_body = 4

abbrev pub define_linkage : ℕ
define_linkage = 8

abbrev pub dso : ℕ
dso = 10

abbrev pub unnamed : ℕ
unnamed = 11

abbrev pub space : ℕ
space = 16

abbrev pub head : ℕ
head = 21

abbrev pub parameters : ℕ
parameters = 22

abbrev pub params : ℕ
params = 23

abbrev pub more_params : ℕ
more_params = 24

abbrev pub param_or_dots : ℕ
param_or_dots = 25

abbrev pub param : ℕ
param = 26

abbrev pub name : ℕ
name = 27

abbrev pub body : ℕ
body = 28

abbrev pub body_parts : ℕ
body_parts = 29

abbrev pub body_part : ℕ
body_part = 30

abbrev pub lost_attrs : ℕ
lost_attrs = 32

abbrev pub function_attrs : ℕ
function_attrs = 35

abbrev pub type : ℕ
type = 60

abbrev pub solid : ℕ
solid = 61

abbrev pub flat : ℕ
flat = 62

abbrev pub angle_type : ℕ
angle_type = 63

abbrev pub types : ℕ
types = 64

abbrev pub more_types : ℕ
more_types = 65

abbrev pub tconst : ℕ
tconst = 71

abbrev pub const : ℕ
const = 72

abbrev pub const_angle : ℕ
const_angle = 73

abbrev pub const_brace : ℕ
const_brace = 74

abbrev pub const_empty : ℕ
const_empty = 75

abbrev pub const_braced : ℕ
const_braced = 76

abbrev pub tconsts : ℕ
tconsts = 79

abbrev pub more_tconsts : ℕ
more_tconsts = 80

abbrev pub inst : ℕ
inst = 82

abbrev pub simple : ℕ
simple = 83

abbrev pub value : ℕ
value = 84

abbrev pub typed : ℕ
typed = 85

abbrev pub pair : ℕ
pair = 86

abbrev pub ret : ℕ
ret = 87

abbrev pub br : ℕ
br = 88

abbrev pub wraps : ℕ
wraps = 93

abbrev pub nsw : ℕ
nsw = 94

abbrev pub lost_wraps : ℕ
lost_wraps = 95

abbrev pub lost_exact : ℕ
lost_exact = 99

abbrev pub lost_disjoint : ℕ
lost_disjoint = 101

abbrev pub lost_samesign : ℕ
lost_samesign = 102

abbrev pub nneg : ℕ
nneg = 105

abbrev pub load : ℕ
load = 112

abbrev pub store : ℕ
store = 114

abbrev pub volatile : ℕ
volatile = 116

abbrev pub entry : ℕ
entry = 131

abbrev pub more_entries : ℕ
more_entries = 132

abbrev pub entry_or_node : ℕ
entry_or_node = 133

abbrev pub align_attached : ℕ
align_attached = 134

abbrev pub align_or_attached : ℕ
align_or_attached = 135

abbrev pub attached : ℕ
attached = 147

abbrev pub attachments : ℕ
attachments = 148
