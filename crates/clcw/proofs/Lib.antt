mod NamedBits
