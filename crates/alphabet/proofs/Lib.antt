mod Bits
mod Inverting
